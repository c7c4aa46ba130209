-- `deallocate` hands the block to the allocator behind, which it came from. Assumes `Logic`.
use Rattle.std.proofs.Common.{◌≡◌, ℕ, ◌+◌, ◌^◌, ◌<◌, List, [], ◌∷◌, refl, w64, Bor}
use seplogic.Ra.Ura.{Ura}
use mir.MapTy.{inst_fn}
use mir.Syntax.{Ty, Args, Fn, a_type, dnil, dcons}
use mir.Val.{Val, vunit, vint, vptr}
use base.Fml.{Lft, Share, ffalse, ftrue, flft, froom, fsep}
use base.Logic.{SProp, ent, sep, id⊢, never_e}
use contract.BorrowLft.{◌⊑◌, ⊑_trans}
use contract.Monad.{Fun, fact}
use contract.Running.{tables, tables_of}
use denote.Builtin.{usize, RawPtr, RefOf}
use denote.Exit.{yes}
use denote.Opens.{unhide}
use denote.Param.{bounded, param}
use denote.Plain.{uint_vals, uint_Tells}
use denote.RattleType.{owns}
use denote.RawPtr.{Ptr, block_ptr, null_ptr, ptr_val, rawptr_vals, rawptr_Tells}
use denote.Ref.{shr_vals}
use denote.Signature.{Slot, plain, types_at}
use denote.Steps.{heard, nothing}
use denote.Triple.Call.{calls_at}
use denote.Triple.Clauses.{Ended, Clauses}
use denote.Triple.Spec.{triple_of}
use denote.Triple.Statement.{Contract, Triple}
use denote.Triple.Table.{entered}
use denote.Triple.Walked.{Stays, stay_dropped, walk_of, ends_at, walked, Goes-dropped, walk_Meets}
use prog.Memory.{Memory, size, align, capped, up}
use prog.Routine.{Routine}
use prog.Wp.{WpFn, Tables}
use sound.WpLaws.{fm_of, WpFn-mono}
use types.ByLocal.{alloc_all, pass_all, free_all, look_at, get, through, sets, lands_as}
use types.Kit.{Item, ‵, raw, ◌⊛◌, later, given, learn, ◌$◌, ◌∵◌, !, qed, by, move, keep, use1, group, split, split3, join, fsplit, fjoin, feq_i, suffices, await, done}
use types.Logic.{Logic, sem}
use types.Run.{stop, fld, addr, of_opd, unit_lit, no_more, and_then, returns, enter}
use Rattle.std.proofs.alloc.Calls.{Al, α, seen, token, gives_key, Gives, at_gives, Gives-goes, Gives-Gives}
use Rattle.fleet_tests.specs.contracts.tests.refusing.Refusing as Refuser
use Rattle.fleet_tests.specs.contracts.tests.refusing.RefusingAllocator.deallocate as F
use Rattle.fleet_tests.specs.contracts.tests.refusing.RefusingAllocator.deallocate.Key as key
use Rattle.fleet_tests.proofs.tests.refusing.RefusingAllocator.deallocate.Code as code
use Rattle.fleet_tests.proofs.tests.refusing.RefusingAllocator.deallocate.Statement.{statement}

abbrev number : Slot 2
number = plain (λ _. usize)

abbrev pointer : Slot 2
pointer = plain (λ _. RawPtr)

-- The function over an allocator I, and its parameters.
module _ (I : Al) where
  abbrev arguments : Args
  arguments = bounded (a_type ∷ []) (I.row, tt) (dcons I.d (dcons I.drops dnil))

  abbrev body_of : Fn
  body_of = inst_fn arguments code.function

  abbrev handle : Slot 2
  handle = RefOf (0 ∷ []) tt (plain (λ _. Refuser.the_row (param 0 I.row))) (λ _. tt)

  abbrev exit : Ended
  exit = F.ended I.row I.g I.d I.drops

  abbrev stays : Stays exit.signature.params exit.kept
  stays = (
    stay_dropped handle yes,
    (stay_dropped pointer yes, (stay_dropped number yes, (stay_dropped number yes, tt))),
  )

module _ (I : Al) {M : Type 1} {𝓤 : Ura M} (𝓛 : Logic 𝓤) (at_mem : Memory → SProp 𝓤) (run : Routine
    → Fun 𝓤) where
  open 𝓛 use {H, A}

  abbrev promised : Clauses 𝓤 (exit I)
  promised = F.clauses I.row I.g I.d I.drops 𝓛 at_mem run

  abbrev Walk : Contract 𝓤
  Walk = walk_of 𝓛 (exit I) (stays I) promised

  -- one call: the lifetimes of the `&` and of the allocator, the `&`, the size, the alignment, what
  -- the block is for, and where it is
  module _ (κ ρ : Lft) (q s : Share) (outlived : κ ⊑ ρ) (r : Bor (Refuser.the_row I.row).Denot)
      (n a : ℕ) (τ : Ty) (at : Ptr) where
    abbrev passed : List Val
    passed = vptr r.ref_ptr.0 r.ref_ptr.1 ∷ ptr_val at ∷ vint w64 n ∷ vint w64 a ∷ []

    abbrev call : Walk.Ghost
    call = (
      (
        (κ, (ρ, tt)),
        (q, (s, tt)),
        (outlived, tt),
        (r, (at, (n, (a, tt)))),
        (shr_vals r, (rawptr_vals at, (uint_vals w64 n, (uint_vals w64 a, tt)))),
      ),
      τ,
    )

    abbrev inner_at : ℕ × ℕ
    inner_at = (r.ref_ptr.0, r.ref_ptr.1 + up (align (α I)) 0)

    abbrev Layout : Type 0
    Layout = (capped (size τ) ≡ n) × (capped (align τ) ≡ a)

    abbrev asked : Item 𝓤
    asked = (‵ (flft κ q) ⊛ ‵ (flft ρ s) ⊛ ‵ ftrue) ⊛ ‵
        (owns (types_at (exit I).signature.params call.0.0) call.0.3 call.0.4)

    -- the tokens are all that the contract wants
    ends : ent 𝓤 (sep 𝓤 (A.lft κ q) (sep 𝓤 (A.lft ρ s) (sem 𝓛 ftrue))) (Walk.post call vunit)
    ends =
        qed 𝓛 (‵ (flft κ q) ∷ (‵ (flft ρ s) ⊛ ‵ ftrue) ∷ []) ∵
        suffices ! _ (ends_at 𝓛 (exit I) (stays I) promised call vunit tt
        (tt, (tt, (tt, (tt, tt)))) (tt, (tt, (tt, (tt, tt))))) $
        nothing ! $ feq_i ! (List Val) (vunit ∷ []) (vunit ∷ []) refl $ nothing ! $ nothing ! $
        fjoin ! $ nothing ! $ fjoin ! $ nothing ! $ fjoin ! $ nothing ! $ fjoin ! $ join ! $
        move ! (2 ∷ 3 ∷ 0 ∷ 1 ∷ []) $ join ! $ join ! $ done !

  -- nothing lies at null, so no block can be there
  walk : (κ ρ : Lft) (q s : Share) (outlived : κ ⊑ ρ) (r : Bor (Refuser.the_row I.row).Denot)
      (n a : ℕ) (τ : Ty) (𝓣 : Tables 𝓤 H) → Triple 𝓤 (𝓣.C (gives_key I)) (Gives I 𝓛 at_mem run)
      → n < 2 ^ 64 → a < 2 ^ 64
      → (at : Ptr) → ent 𝓤 (Walk.pre (call κ ρ q s outlived r n a τ at))
      (WpFn 𝓤 H 𝓣.C 𝓣.Λ (body_of I) (passed κ ρ q s outlived r n a τ at)
      (Walk.post (call κ ρ q s outlived r n a τ at)))
  walk κ ρ q s outlived r n a τ 𝓣 inner low_n low_a null_ptr =
      qed 𝓛 (asked κ ρ q s outlived r n a τ null_ptr
      ∷ (raw (fact 𝓤 (ρ ⊑ I.row.lives)) ⊛ raw
      (fact 𝓤 (Layout κ ρ q s outlived r n a τ null_ptr)) ⊛ ‵
      (fsep ffalse (token I r.now.inner τ null_ptr))) ∷ []) ∵
      move ! (1 ∷ []) $ split3 ! $ move ! (2 ∷ []) $ fsplit ! $ keep ! (0 ∷ []) $ by ! (never_e 𝓤 _)
  walk κ ρ q s outlived r n a τ 𝓣 inner low_n low_a (block_ptr b o) =
      let at : Ptr = block_ptr b o in
      let h : I.row.Denot = r.now.inner in
      let p : ℕ × ℕ = inner_at κ ρ q s outlived r n a τ at in
      let Fits : Type 0 = Layout κ ρ q s outlived r n a τ at in
      let there : (Gives I 𝓛 at_mem run).Ghost = at_gives I 𝓛 at_mem run κ q p h b o n a τ in
      qed 𝓛 (asked κ ρ q s outlived r n a τ at
      ∷ (raw (fact 𝓤 (ρ ⊑ I.row.lives)) ⊛ raw (fact 𝓤 Fits) ⊛ ‵
      (fsep (froom τ b o) (token I h τ at))) ∷ []) ∵
      move ! (1 ∷ []) $ split3 ! $ heard ! (ρ ⊑ I.row.lives)
      (λ lives. heard ! Fits (λ fits. fsplit ! $
      -- [the block; the right to free it; the tokens; the parameters], and of these the `&` alone,
      -- as its first field
      move ! (2 ∷ []) $ split ! $ split ! $ move ! (2 ∷ []) $ fsplit ! $ fsplit ! $ move !
      (1 ∷ []) $ unhide ! $ fsplit ! $ fsplit ! $
      use1 𝓛 (‵ (seen I κ p h)) (id⊢ 𝓤 _) $ keep ! (7 ∷ 8 ∷ 0 ∷ 5 ∷ 6 ∷ []) $
      -- [the block; the right to free it; the allocator behind; the token of the `&`; the other
      -- token]
      enter ! 𝓣.C 𝓣.Λ (body_of I) (passed κ ρ q s outlived r n a τ at) _ $ alloc_all !
      (λ l. pass_all ! refl (
        (tt, tt),
        ((tt, tt), ((tt, record { fits = low_n }), ((tt, record { fits = low_a }), tt))),
      ) $
      sets ! (addr ! (through ! refl (fld ! refl (stop !)))) refl (tt, tt) $ group ! 4 $
      use1 𝓛 (raw ((Gives I 𝓛 at_mem run).pre there)) (Gives-goes I 𝓛 at_mem run κ q p h
      (⊑_trans κ ρ I.row.lives outlived lives) b o n a τ fits.0 fits.1 low_n low_a) $
      calls_at ! (fm_of 𝓤 H 𝓛.laws 𝓣) (Gives I 𝓛 at_mem run) inner there
      (and_then ! (get ! refl) (and_then ! (get ! refl)
      (and_then ! (get ! refl) (and_then ! (get ! refl) (no_more !))))) (λ v.
      use1 𝓛 (later (given (v ≡ vunit) (‵ (flft κ q)))) (Gives-Gives I 𝓛 at_mem run κ q p h b o n a
      τ v) $ await ! tt $ learn ! (λ is_unit. lands_as ! is_unit refl (tt, tt) $
      sets ! (of_opd ! (unit_lit !)) refl (tt, tt) $ returns ! (look_at ! 0 refl) $ free_all !
      refl $ by ! (ends κ ρ q s outlived r n a τ at))))))

pub deallocate_spec : {M : Type 1} → statement M
unfolding tables_of
deallocate_spec 𝓤 𝓛 𝓜 𝓡 w row laws ghosts methods drops met _ =
    let I : Al = record { row = row; laws = laws; g = ghosts; d = methods; drops = drops } in
    let A = 𝓛.A in
    let 𝓣 : Tables 𝓤 𝓛.H = tables_of 𝓤 𝓛.H 𝓜 (tables 𝓤 𝓛.H 𝓜 𝓡 𝓡.env) in
    let c = promised I 𝓛 𝓜.mem 𝓡.returns in
    let Code = WpFn 𝓤 𝓛.H 𝓣.C 𝓣.Λ (body_of I) in
    let number_goes = Goes-dropped 𝓛 2 number yes (λ κs x f. refl) in
    entered 𝓤 𝓛.H (triple_of 𝓛 (F.signature row) (F.spec row ghosts methods drops 𝓛 𝓜.mem
    𝓡.returns)) 𝓣.C 𝓣.Λ (key.name (arguments I)) (body_of I)
    (code.unfolded 𝓤 𝓛.H 𝓜 𝓡 w (row, tt) methods drops)
    (walk_Meets 𝓛 (exit I) (stays I) (
      Goes-dropped 𝓛 2 (handle I) yes (λ κs x f. refl),
      (Goes-dropped 𝓛 2 pointer yes (λ κs x f. refl), (number_goes, (number_goes, tt))),
    ) c Code
    (WpFn-mono 𝓤 𝓛.H 𝓛.laws 𝓣 (body_of I))
    (walked 𝓛 (exit I) (stays I) c Code
    (λ κs. (shr_vals, (rawptr_vals, (uint_vals w64, (uint_vals w64, tt)))))
    (λ κs. ((λ r vs said. said.0), (rawptr_Tells, (uint_Tells w64, (uint_Tells w64, tt)))))
    (λ κs qs bounds x τ fit. walk I 𝓛 𝓜.mem 𝓡.returns κs.0 κs.1.0 qs.0 qs.1.0 bounds.0 x.0 x.1.1.0
    x.1.1.1.0 τ 𝓣 (met.deallocate drops) fit.1.1.0.1 fit.1.1.1.0.1 x.1.0)))
