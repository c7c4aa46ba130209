-- The open questions of a site, as they change.
-- Serves `entry_query`, `join_or_open`, `settle_by`, `make_plan`, `serve_due`, and what `Hearing`,
-- `Plans` serve.
use Rattle.std.proofs.Common.{◌≡◌, ℕ, ◌⊎◌, inl, inr, Option, Some, List, ◌<◌, length, get_or, arith, refl, sym, ◌∙◌, ap, subst}
use Rattle.std.proofs.lemmas.Option.{slice_get_read}
use Rattle.fleet_wire.specs.declared.class.TheConstants.{IN}
use Rattle.fleet_pending.specs.Waiter.{WaiterData}
use Rattle.fleet_pending.specs.Asking.{Settles}
use Rattle.fleet_pending.specs.PendingData.{EntryData, PendingData, IsPendingData}
use Rattle.fleet_name.specs.Places.{At}
use Rattle.fleet_pending.specs.Settled.{SettlesItsEntry}
use Rattle.fleet_pending.specs.Waiting.{IsWaiting}
use Rattle.fleet_pending.specs.declared.addr.Addr.{Addr}
use Rattle.fleet_site.specs.Table.{IsTableOf, KeepsTable, IsOfClassOne, AskClassOne}

-- where nobody else waits than before
pub keeps_table : (o n : PendingData) → IsPendingData n → n.upstreams ≡ o.upstreams
    → ((v : WaiterData) → IsWaiting n v → IsWaiting o v) → KeepsTable o n
keeps_table o n lawful upstreams stay =
    λ us t. record {
      pending = lawful;
      counted = upstreams ∙ t.counted;
      class = λ w h. t.class w (stay w h);
    }

-- where nobody else waits than before and who asked
pub keeps_table_asked : (us : List Addr) (o n : PendingData) (w : WaiterData) → IsTableOf us o
    → w.question.class ≡ IN → IsPendingData n → n.upstreams ≡ o.upstreams
    → ((v : WaiterData) → IsWaiting n v → IsWaiting o v ⊎ (v ≡ w)) → IsTableOf us n
keeps_table_asked us o n w t class lawful upstreams stay =
    record { pending = lawful; counted = upstreams ∙ t.counted; class = λ v h. go v (stay v h) }
  where
    go : (v : WaiterData) → IsWaiting o v ⊎ (v ≡ w) → v.question.class ≡ IN
    go v (inl h) = t.class v h
    go v (inr e) = ap (λ x. x.question.class) e ∙ class

pub of_class_one : (o : PendingData) (i : ℕ) (e : EntryData) → AskClassOne o → At o.entries i e
    → IsOfClassOne e
of_class_one o i e class there =
    λ j w waits. class w (record { place = i; entry = e; there = there; turn = j; waits = waits })

-- the entry that is given back is the one with the id
pub settles_entry : SettlesItsEntry → (o n : PendingData) (i id : ℕ) (e : EntryData)
    (r : Option EntryData) → IsPendingData o → At o.entries i e → id ≡ e.id → Settles o id r n
    → Settles o e.id (Some e) n
settles_entry gives o n i id e r lawful there is s =
    (i, there, refl, (gives o n i id e r lawful there (sym is) s).1)

-- the first waiter of an entry
pub first_waiter : (ws xs : List WaiterData) (x : WaiterData) → xs ≡ ws → length xs ≡ length ws
    → 0 < length ws → x ≡ get_or xs 0 x → At ws 0 x
first_waiter ws xs x value len some e =
    let l : 0 < length xs = omega arith in
    subst (λ vs. At vs 0 x) value (slice_get_read xs (length xs) 0 x refl l e)
