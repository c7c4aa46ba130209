-- `allocate` counts its call, refuses the one that is to be refused, and else answers as the
-- allocator behind it. Assumes `Logic`.
use Rattle.std.proofs.Common.{◌≡◌, ℕ, Bool, true, false, ◌+◌, ◌^◌, ◌<◌, List, [], ◌∷◌, Ok, Err, refl, w64, Bor}
use seplogic.Ra.Ura.{Ura}
use mir.MapTy.{inst_fn}
use mir.Syntax.{Ty, Args, Fn, a_type, dnil, dcons}
use mir.Val.{Val, vbool, vint, vptr}
use base.Fml.{Fml, Lft, Share, ftrue, flft}
use base.Logic.{SProp, ent, sep, ex, guard, id⊢}
use contract.BorrowLft.{◌⊑◌, ⊑_trans}
use contract.Monad.{Fun, fact}
use contract.Running.{tables, tables_of}
use denote.Builtin.{usize, RefOf}
use denote.Exit.{yes}
use denote.Opens.{unhide}
use denote.Param.{bounded, param}
use denote.Plain.{uint_vals, uint_Tells}
use denote.RattleType.{owns}
use denote.RawPtr.{block_ptr}
use denote.Ref.{shr_vals}
use denote.Signature.{Slot, plain, types_at}
use denote.Steps.{heard, nothing}
use denote.Triple.Call.{calls_at}
use denote.Triple.Clauses.{Ended, Clauses}
use denote.Triple.Spec.{triple_of}
use denote.Triple.Statement.{Contract, Triple}
use denote.Triple.Table.{entered, cited}
use denote.Triple.Walked.{Stays, stay_dropped, walk_of, ends_at, walked, Goes-dropped, walk_Meets}
use prog.Memory.{Memory, size, align, capped, up}
use prog.Routine.{Routine}
use prog.Wp.{WpFn, Tables}
use sound.WpLaws.{fm_of, WpFn-mono}
use types.ByLocal.{alloc_all, pass_all, free_all, look_at, get, through, sets, lands_as, env}
use types.Kit.{‵, raw, ◌⊛◌, some, later, given, learn, pick, at_ret, ◌$◌, ◌∵◌, !, qed, by, move, keep, use0, use1, use2, split, join, fsplit, fjoin, suffices, await, done}
use types.Logic.{Logic, sem}
use types.Part.{agg}
use types.Run.{stop, fld, addr, lit, no_more, and_then, first, branches, skips, exec, returns, returns_within, enter}
use Rattle.std.proofs.VecSteps.Shapes.{after}
use Rattle.std.proofs.alloc.Calls.{Al, α, seen, token, got, Answer, answer_val, Answer-typed, Answer-Ok, Answer-err, takes_key, Takes, at_takes, Answered, Takes-goes, Takes-gives}
use Rattle.fleet_tests.specs.contracts.tests.refusing.Calls as Counter
use Rattle.fleet_tests.specs.contracts.tests.refusing.Refusing as Refuser
use Rattle.fleet_tests.specs.contracts.tests.refusing.RefusingAllocator.allocate as F
use Rattle.fleet_tests.specs.contracts.tests.refusing.RefusingAllocator.allocate.Key as key
use Rattle.fleet_tests.proofs.tests.refusing.RefusingAllocator.allocate.Code as code
use Rattle.fleet_tests.proofs.tests.refusing.RefusingAllocator.allocate.Statement.{statement}
use Rattle.fleet_tests.proofs.tests.refusing.Calls.refuses_next.Symbol as counting
use Rattle.fleet_tests.proofs.tests.refusing.Calls.refuses_next.Met as counts
use Rattle.fleet_tests.proofs.tests.refusing.RefusingAllocator.allocate.Proof.Count.{Counts, at_counts, goes, Said, comes}
mod Count

abbrev number : Slot 2
number = plain (λ _. usize)

-- The function over an allocator I, and its parameters.
module _ (I : Al) where
  abbrev arguments : Args
  arguments = bounded (a_type ∷ []) (I.row, tt) (dcons I.d (dcons I.drops dnil))

  abbrev body_of : Fn
  body_of = inst_fn arguments code.function

  abbrev handle : Slot 2
  handle = RefOf (0 ∷ []) tt (plain (λ _. Refuser.the_row (param 0 I.row))) (λ _. tt)

  abbrev exit : Ended
  exit = F.ended I.row I.g I.d I.drops

  abbrev stays : Stays exit.signature.params exit.kept
  stays = (stay_dropped handle yes, (stay_dropped number yes, (stay_dropped number yes, tt)))

module _ (I : Al) {M : Type 1} {𝓤 : Ura M} (𝓛 : Logic 𝓤) (at_mem : Memory → SProp 𝓤) (run : Routine
    → Fun 𝓤) where
  open 𝓛 use {H, A}

  abbrev promised : Clauses 𝓤 (exit I)
  promised = F.clauses I.row I.g I.d I.drops 𝓛 at_mem run

  abbrev Walk : Contract 𝓤
  Walk = walk_of 𝓛 (exit I) (stays I) promised

  -- one call: the lifetimes of the `&` and of the allocator, the `&`, the size, the alignment, and
  -- what the block is for
  module _ (κ ρ : Lft) (q s : Share) (outlived : κ ⊑ ρ) (r : Bor (Refuser.the_row I.row).Denot)
      (n a : ℕ) (τ : Ty) where
    abbrev passed : List Val
    passed = vptr r.ref_ptr.0 r.ref_ptr.1 ∷ vint w64 n ∷ vint w64 a ∷ []

    abbrev call : Walk.Ghost
    call = (
      (
        (κ, (ρ, tt)),
        (q, (s, tt)),
        (outlived, tt),
        (r, (n, (a, tt))),
        (shr_vals r, (uint_vals w64 n, (uint_vals w64 a, tt))),
      ),
      τ,
    )

    abbrev inner_at : ℕ × ℕ
    inner_at = (r.ref_ptr.0, r.ref_ptr.1 + up (align (α I)) 0)

    abbrev calls_from : ℕ
    calls_from = r.ref_ptr.1 + up 8 (up (align (α I)) 0 + size (α I))

    -- an answer with what comes with it, and the tokens, are all that the contract wants
    ends : (y : Bool) (b o : ℕ)
        → ent 𝓤 (sep 𝓤 (sem 𝓛 (got (token I r.now.inner) τ y b o))
        (sep 𝓤 (A.lft κ q) (sep 𝓤 (A.lft ρ s) (sem 𝓛 ftrue)))) (Walk.post call (answer_val y b o))
    ends true b o =
        qed 𝓛 (‵ (got (token I r.now.inner) τ true b o) ∷ ‵ (flft κ q) ∷ (‵ (flft ρ s) ⊛ ‵ ftrue)
        ∷ []) ∵
        suffices ! _ (ends_at 𝓛 (exit I) (stays I) promised call (answer_val true b o)
        (Ok (block_ptr b o)) (tt, (tt, (tt, tt))) (tt, (tt, (tt, tt)))) $
        use0 𝓛 (‵ (Answer.own_val (Ok (block_ptr b o)) (answer_val true b o ∷ [])))
        (Answer-Ok 𝓛 b o) $
        nothing ! $ nothing ! $ fjoin ! $ nothing ! $ fjoin ! $ nothing ! $ fjoin ! $ join ! $
        move ! (2 ∷ 3 ∷ 0 ∷ 1 ∷ []) $ join ! $ join ! $ done !
    ends false b o =
        qed 𝓛 (‵ ftrue ∷ ‵ (flft κ q) ∷ (‵ (flft ρ s) ⊛ ‵ ftrue) ∷ []) ∵
        suffices ! _ (ends_at 𝓛 (exit I) (stays I) promised call (answer_val false b o)
        (Err (record {})) (tt, (tt, (tt, tt))) (tt, (tt, (tt, tt)))) $
        use0 𝓛 (‵ (Answer.own_val (Err (record {})) (answer_val false b o ∷ []))) (Answer-err 𝓛) $
        nothing ! $ nothing ! $ fjoin ! $ nothing ! $ fjoin ! $ nothing ! $ fjoin ! $ join ! $
        move ! (2 ∷ 3 ∷ 0 ∷ 1 ∷ []) $ join ! $ join ! $ done !

    walk : (𝓣 : Tables 𝓤 H) → Triple 𝓤 (𝓣.C (takes_key I)) (Takes I 𝓛 at_mem run)
        → Triple 𝓤 (𝓣.C counting.name) (Counts 𝓛 at_mem run) → n < 2 ^ 64 → a < 2 ^ 64
        → ent 𝓤 (Walk.pre call) (WpFn 𝓤 H 𝓣.C 𝓣.Λ (body_of I) passed (Walk.post call))
    walk 𝓣 inner count low_n low_a =
        let h : I.row.Denot = r.now.inner in
        let Layout : Type 0 = (capped (size τ) ≡ n) × (capped (align τ) ≡ a) in
        let there : (Takes I 𝓛 at_mem run).Ghost = at_takes I 𝓛 at_mem run κ q inner_at h n a τ in
        let counted : (Counts 𝓛 at_mem run).Ghost = at_counts 𝓛 at_mem run κ q r.now.calls
        r.ref_ptr.0 calls_from in
        qed 𝓛 (((‵ (flft κ q) ⊛ ‵ (flft ρ s) ⊛ ‵ ftrue) ⊛ ‵
        (owns (types_at (exit I).signature.params call.0.0) call.0.3 call.0.4))
        ∷ (raw (fact 𝓤 (ρ ⊑ I.row.lives)) ⊛ raw (fact 𝓤 Layout)) ∷ []) ∵
        move ! (1 ∷ []) $ split ! $ heard ! (ρ ⊑ I.row.lives) (λ lives. heard ! Layout (λ fits.
        -- [the tokens; the parameters], and of these the `&` alone, as its two fields
        split ! $ split ! $ move ! (2 ∷ []) $ fsplit ! $ fsplit ! $ move ! (1 ∷ []) $ unhide ! $
        fsplit ! $ fsplit ! $
        use1 𝓛 (‵ (seen I κ inner_at h)) (id⊢ 𝓤 _) $ move ! (1 ∷ []) $ fsplit ! $ keep !
        (6 ∷ 0 ∷ 2 ∷ 7 ∷ []) $
        -- [the token of the `&`; the counter; the allocator behind; the other token]
        enter ! 𝓣.C 𝓣.Λ (body_of I) passed _ $ alloc_all !
        (λ l. pass_all ! refl (
          (tt, tt),
          (
            (tt, record { fits = low_n }),
            ((tt, record { fits = low_a }), tt),
          ),
        ) $
        sets ! (addr ! (through ! refl (fld ! refl (stop !)))) refl (tt, tt) $
        use2 𝓛 (raw ((Counts 𝓛 at_mem run).pre counted)) (goes 𝓛 at_mem run κ q r.now.calls
        r.ref_ptr.0 calls_from) $
        calls_at ! (fm_of 𝓤 H 𝓛.laws 𝓣) (Counts 𝓛 at_mem run) count counted
        (and_then ! (get ! refl) (no_more !)) (λ u.
        use1 𝓛 (later (some (λ (y : Bool). given (u ≡ vbool y) (‵ (flft κ q)))))
        (comes 𝓛 at_mem run κ q r.now.calls r.ref_ptr.0 calls_from u) $ await ! tt $
        pick ! (λ refused. learn ! (λ is. lands_as ! is refl (tt, tt) $
        first ! $ branches ! (get ! refl)
        (λ _. sets ! (agg ! (no_more !)) refl (tt, tt) $ sets !
        (agg ! (and_then ! (lit ! tt) (and_then ! (get ! refl) (no_more !)))) refl
        (Answer-typed false 0 0) $
        returns_within ! (Walk.post call) refl (look_at ! 0 refl) $ free_all ! refl $ keep !
        (0 ∷ 2 ∷ []) $ nothing ! $ by ! (ends false 0 0))
        (λ _. skips ! $ exec ! 𝓣.C 𝓣.Λ (env (body_of I).locals l) (after 3 (body_of I).body)
        (at_ret _ (Walk.post call)) $
        sets ! (addr ! (through ! refl (fld ! refl (stop !)))) refl (tt, tt) $ move ! (1 ∷ 0 ∷ []) $
        use2 𝓛 (raw ((Takes I 𝓛 at_mem run).pre there)) (Takes-goes I 𝓛 at_mem run κ q inner_at h
        (⊑_trans κ ρ I.row.lives outlived lives) n a τ fits.0 fits.1 low_n low_a) $
        calls_at ! (fm_of 𝓤 H 𝓛.laws 𝓣) (Takes I 𝓛 at_mem run) inner there
        (and_then ! (get ! refl) (and_then ! (get ! refl)
        (and_then ! (get ! refl) (no_more !)))) (λ v.
        use1 𝓛 (later (some (λ (c : Bool × (ℕ × ℕ)). given (v ≡ answer_val c.0 c.1.0 c.1.1)
        (‵ (got (token I h) τ c.0 c.1.0 c.1.1))) ⊛ ‵ (flft κ q)))
        (Takes-gives I 𝓛 at_mem run κ q inner_at h n a τ v) $ await ! tt $ split ! $
        pick ! (λ c. learn ! (λ got_it. lands_as ! got_it refl (Answer-typed c.0 c.1.0 c.1.1) $
        returns ! (look_at ! 0 refl) $ free_all ! refl $ by ! (ends c.0 c.1.0 c.1.1)))))))))))

pub allocate_spec : {M : Type 1} → statement M
unfolding tables_of
allocate_spec 𝓤 𝓛 𝓜 𝓡 w row laws ghosts methods drops met _ =
    let I : Al = record { row = row; laws = laws; g = ghosts; d = methods; drops = drops } in
    let A = 𝓛.A in
    let 𝓣 : Tables 𝓤 𝓛.H = tables_of 𝓤 𝓛.H 𝓜 (tables 𝓤 𝓛.H 𝓜 𝓡 𝓡.env) in
    let c = promised I 𝓛 𝓜.mem 𝓡.returns in
    let Code = WpFn 𝓤 𝓛.H 𝓣.C 𝓣.Λ (body_of I) in
    let number_goes = Goes-dropped 𝓛 2 number yes (λ κs x f. refl) in
    entered 𝓤 𝓛.H (triple_of 𝓛 (F.signature row) (F.spec row ghosts methods drops 𝓛 𝓜.mem
    𝓡.returns)) 𝓣.C 𝓣.Λ (key.name (arguments I)) (body_of I)
    (code.unfolded 𝓤 𝓛.H 𝓜 𝓡 w (row, tt) methods drops)
    (walk_Meets 𝓛 (exit I) (stays I) (
      Goes-dropped 𝓛 2 (handle I) yes (λ κs x f. refl),
      (number_goes, (number_goes, tt)),
    ) c Code (WpFn-mono 𝓤 𝓛.H 𝓛.laws 𝓣 (body_of I))
    (walked 𝓛 (exit I) (stays I) c Code (λ κs. (shr_vals, (uint_vals w64, (uint_vals w64, tt))))
    (λ κs. ((λ r vs said. said.0), (uint_Tells w64, (uint_Tells w64, tt))))
    (λ κs qs bounds x τ fit. walk I 𝓛 𝓜.mem 𝓡.returns κs.0 κs.1.0 qs.0 qs.1.0 bounds.0 x.0 x.1.0
    x.1.1.0 τ 𝓣 (met.allocate drops)
    (cited 𝓤 𝓛.H _ 𝓜 𝓡 𝓡.env counting.name (𝓡.env counting.name) refl
    (counts.met 𝓤 𝓛 𝓜 𝓡 (code.calls-fleet_tests::tests::refusing::Calls::refuses_next 𝓡.env w)))
    fit.1.0.1 fit.1.1.0.1)))
