-- `refuses_next` at its call: what it is handed, and that it gives a bit and the token back.
-- Assumes `Logic`.
use Rattle.std.proofs.Common.{◌≡◌, ℕ, Bool, List, [], ◌∷◌, refl, ap}
use seplogic.Ra.Ura.{Ura}
use mir.Val.{Val, vbool, vptr}
use base.Logic.{SProp, ent, sep, ex, guard, id⊢}
use base.Fml.{Lft, Share, ftrue, fsep, flft}
use prog.Memory.{Memory}
use prog.Routine.{Routine}
use types.Logic.{Logic, sem}
use contract.Monad.{Fun}
use types.Kit.{‵, raw, ◌⊛◌, some, later, ◌$◌, ◌∵◌, !, qed, move, keep, use1, split, join, fjoin, feq_i, feq_l, pick, check, show, await, updating, now as at_once, done}
use denote.Builtin.{bool}
use denote.Memory.{hidden_shr}
use denote.Steps.{nothing, only}
use denote.Triple.Spec.{triple_of}
use denote.Triple.Statement.{Contract}
use Rattle.fleet_tests.specs.declared.tests.refusing.Calls.{Calls}
use Rattle.fleet_tests.specs.contracts.tests.refusing.Calls as C
use Rattle.fleet_tests.specs.contracts.tests.refusing.Calls.refuses_next as N

module _ {M : Type 1} {𝓤 : Ura M} (𝓛 : Logic 𝓤) (at_mem : Memory → SProp 𝓤) (run : Routine
    → Fun 𝓤) where
  open 𝓛 use {H, A}

  abbrev pub Counts : Contract 𝓤
  Counts = triple_of 𝓛 N.signature (N.spec 𝓛 at_mem run)

  module _ (κ : Lft) (q : Share) (c : Calls) (b o : ℕ) where
    abbrev pub at_counts : Counts.Ghost
    at_counts = (
      (
        (κ, tt),
        (q, tt),
        tt,
        (record { ref_ptr = (b, o); now = c }, tt),
        (vptr b o ∷ [], tt),
      ),
      tt,
    )

    pub goes : ent 𝓤 (sep 𝓤 (A.lft κ q) (sem 𝓛 (hidden_shr C.the_row κ c b o)))
        (Counts.pre at_counts)
    goes =
        qed 𝓛 (‵ (flft κ q) ∷ ‵ (hidden_shr C.the_row κ c b o) ∷ []) ∵
        nothing ! $ move ! (2 ∷ []) $ feq_i ! (List Val) (vptr b o ∷ []) (vptr b o ∷ []) refl $
        fjoin ! $ move ! (0 ∷ 1 ∷ []) $ fjoin ! $
        nothing ! $ move ! (2 ∷ 0 ∷ []) $ join ! $ join ! $ nothing ! $ move ! (1 ∷ []) $ done !

    abbrev pub Said : Val → SProp 𝓤
    Said v = ex 𝓤 (λ (y : Bool). guard 𝓤 (v ≡ vbool y) (A.lft κ q))

    pub comes : (v : Val) → ent 𝓤 (Counts.post at_counts v) (H.⇛ (Said v))
    comes v =
        qed 𝓛 (raw (Counts.post at_counts v) ∷ []) ∵ updating ! $
        use1 𝓛 (later (some (λ (y : Bool).
        ((‵ (flft κ q) ⊛ ‵ ftrue) ⊛ ‵ (bool.own_val y (v ∷ []))) ⊛ some
        (λ (ws : Unit {0} × Unit {0}). ‵ (fsep ftrue ftrue) ⊛ ‵ ftrue)))) (id⊢ 𝓤 _) $
        await ! tt $ pick ! (λ y. split ! $ split ! $ move ! (1 ∷ []) $ feq_l !
        (λ is. split ! $ keep ! (0 ∷ []) $
        at_once ! $ show ! (λ (z : Bool). guard 𝓤 (v ≡ vbool z) (A.lft κ q)) y $ check !
        (ap only is) $ done !))
