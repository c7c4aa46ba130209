-- Each waiter accepted is given back or waits.
-- Serves law `waiters_kept`.
use Rattle.std.proofs.Common.{◌≡◌, ℕ, zero, suc, ◌+◌, List, [], ◌∷◌, ◌++◌, Some, None, Result, Ok, Err, Bool, true, false, slice_set, refl, ap, arith}
use Rattle.std.specs.List.{count_by, flat_map, remove}
use Rattle.std.proofs.lemmas.List.Sums.{sum_by-append}
use Rattle.std.proofs.lemmas.List.Concat.{flat_map-append}
use Rattle.fleet_name.specs.Places.{At}
use Rattle.fleet_pending.specs.Waiter.{WaiterData}
use Rattle.fleet_pending.specs.PendingData.{EntryData, PendingData}
use Rattle.fleet_pending.specs.Asking.{Joins, waits_already, waits_too, no_place, no_memory_for_place, Opens, is_sent, no_room, no_memory_for_room, joins, opens, new_entry, with_next_upstream}
use Rattle.fleet_pending.specs.Calls.{Call, ask, settle, advance, clear, Does, Run, waiters_accepted, waiters_returned, waiters_cleared, open_waiters, EachAsOften}
use Rattle.fleet_pending.specs.declared.answer.Asked.{Asked}
use Rattle.fleet_pending.specs.declared.answer.Asked.TheVariants.{Again}
use Rattle.fleet_pending.specs.declared.answer.PendingFault.{PendingFault}
use Rattle.fleet_pending.specs.declared.answer.PendingFault.TheVariants.{Full, WaitersFull, OutOfMemory}

count-append : (test : WaiterData → Bool) (xs ys : List WaiterData)
    → count_by test (xs ++ ys) ≡ count_by test xs + count_by test ys
count-append test xs ys = sum_by-append _ xs ys

abbrev in_all : (WaiterData → Bool) → List EntryData → ℕ
in_all test es = count_by test (flat_map (λ e. e.waiters) es)

count_set : (test : WaiterData → Bool) (es : List EntryData) (i : ℕ) (e f : EntryData) → At es i e
    → in_all test (slice_set es i f) + count_by test e.waiters ≡ in_all test es + count_by test
    f.waiters
count_set test [] i e f t = absurd (let q : None ≡ Some e = t in cc)
count_set test (x ∷ es) zero e f t =
    let q : x ≡ e = (let p : Some x ≡ Some e = t in cc) in
    let a = count-append test f.waiters (flat_map (λ v. v.waiters) es) in
    let b = count-append test x.waiters (flat_map (λ v. v.waiters) es) in
    let d : count_by test x.waiters ≡ count_by test e.waiters =
    ap (λ v. count_by test v.waiters) q in
    omega (arith, a, b, d)
count_set test (x ∷ es) (suc i) e f t =
    let r = count_set test es i e f t in
    let a = count-append test x.waiters (flat_map (λ v. v.waiters) (slice_set es i f)) in
    let b = count-append test x.waiters (flat_map (λ v. v.waiters) es) in
    omega (arith, a, b, r)

count_remove : (test : WaiterData → Bool) (es : List EntryData) (i : ℕ) (e : EntryData) → At es i e
    → in_all test es ≡ count_by test e.waiters + in_all test (remove es i)
count_remove test [] i e t = absurd (let q : None ≡ Some e = t in cc)
count_remove test (x ∷ es) zero e t =
    let q : x ≡ e = (let p : Some x ≡ Some e = t in cc) in
    let b = count-append test x.waiters (flat_map (λ v. v.waiters) es) in
    let d : count_by test x.waiters ≡ count_by test e.waiters =
    ap (λ v. count_by test v.waiters) q in
    omega (arith, b, d)
count_remove test (x ∷ es) (suc i) e t =
    let r = count_remove test es i e t in
    let a = count-append test x.waiters (flat_map (λ v. v.waiters) (remove es i)) in
    let b = count-append test x.waiters (flat_map (λ v. v.waiters) es) in
    omega (arith, a, b, r)

count_push : (test : WaiterData → Bool) (es : List EntryData) (f : EntryData)
    → in_all test (es ++ f ∷ []) ≡ in_all test es + count_by test f.waiters
count_push test es f =
    let a : in_all test (es ++ f ∷ []) ≡ count_by test
    (flat_map (λ v. v.waiters) es ++ (f.waiters ++ [])) =
    ap (count_by test) (flat_map-append (λ v. v.waiters) es (f ∷ [])) in
    let b = count-append test (flat_map (λ v. v.waiters) es) (f.waiters ++ []) in
    let d = count-append test f.waiters [] in
    let z : count_by test [] ≡ 0 = refl in
    omega (arith, a, b, d, z)

-- how many of those that a call accepted pass a test, where this was answered
abbrev accepted : (WaiterData → Bool) → WaiterData → ℕ → ℕ → Result Asked PendingFault → ℕ
accepted test w now word r = count_by test (waiters_accepted (ask w now word r))

join_step : (test : WaiterData → Bool) (es : List EntryData) (i now word : ℕ) (e f : EntryData)
    (w : WaiterData) (r : Result Asked PendingFault) → At es i e → Joins e w r f
    → in_all test es + count_by test (waiters_accepted (ask w now word r)) ≡ in_all test
    (slice_set es i f)
join_step test es i now word e f w r t j = go j
  where
    s : in_all test (slice_set es i f) + count_by test e.waiters ≡ in_all test es + count_by test
        f.waiters
    s = count_set test es i e f t

    kept : (x : Result Asked PendingFault) → accepted test w now word x ≡ 0 → r ≡ x → f ≡ e
        → in_all test es + accepted test w now word r ≡ in_all test (slice_set es i f)
    kept x none result_is same =
        let a = ap (accepted test w now word) result_is in
        let d : count_by test f.waiters ≡ count_by test e.waiters =
        ap (λ v. count_by test v.waiters) same in
        omega (arith, s, a, d, none)

    go : Joins e w r f
        → in_all test es + accepted test w now word r ≡ in_all test (slice_set es i f)
    go (waits_already waits result_is same) = kept (Ok Again) refl result_is same
    go (waits_too new few result_is more) =
        let k = ap (accepted test w now word) result_is in
        let d : count_by test f.waiters ≡ count_by test (e.waiters ++ w ∷ []) =
        ap (λ v. count_by test v.waiters) more in
        let a = count-append test e.waiters (w ∷ []) in
        omega (arith, s, k, d, a)
    go (no_place new many result_is same) = kept (Err WaitersFull) refl result_is same
    go (no_memory_for_place new few result_is same) = kept (Err OutOfMemory) refl result_is same

open_step : (test : WaiterData → Bool) (es fs : List EntryData) (now word : ℕ) (w : WaiterData)
    (r : Result Asked PendingFault) → Opens es w now word r fs
    → in_all test es + count_by test (waiters_accepted (ask w now word r)) ≡ in_all test fs
open_step test es fs now word w r j = go j
  where
    kept : (x : Result Asked PendingFault) → accepted test w now word x ≡ 0 → r ≡ x → fs ≡ es
        → in_all test es + accepted test w now word r ≡ in_all test fs
    kept x none result_is same =
        let a = ap (accepted test w now word) result_is in
        let d : in_all test fs ≡ in_all test es = ap (in_all test) same in
        omega (arith, a, d, none)

    go : Opens es w now word r fs
        → in_all test es + accepted test w now word r ≡ in_all test fs
    go (is_sent id few free result_is more) =
        let k = ap (accepted test w now word) result_is in
        let s = count_push test es (new_entry w now id) in
        let d : in_all test fs ≡ in_all test (es ++ new_entry w now id ∷ []) =
        ap (in_all test) more in
        omega (arith, k, s, d)
    go (no_room many result_is same) = kept (Err Full) refl result_is same
    go (no_memory_for_room few result_is same) = kept (Err OutOfMemory) refl result_is same

abbrev all_open : (WaiterData → Bool) → PendingData → ℕ
all_open test o = count_by test (open_waiters o)

step : (test : WaiterData → Bool) (o n : PendingData) (c : Call) → Does o c n
    → all_open test o + count_by test (waiters_accepted c) ≡ count_by test
    (waiters_returned c) + (count_by test (waiters_cleared c) + all_open test n)
step test o n (ask w now word r) (joins i e f t a j q) =
    let s = join_step test o.entries i now word e f w r t j in
    let d : all_open test n ≡ in_all test (slice_set o.entries i f) = ap (all_open test) q in
    let z : count_by test [] ≡ 0 = refl in
    omega (arith, s, d, z)
step test o n (ask w now word r) (opens fs a j q) =
    let s = open_step test o.entries fs now word w r j in
    let d : all_open test n ≡ in_all test fs = ap (all_open test) q in
    let z : count_by test [] ≡ 0 = refl in
    omega (arith, s, d, z)
step test o n (settle id None) h =
    let d : all_open test n ≡ all_open test o = ap (all_open test) h.1 in
    let z : count_by test [] ≡ 0 = refl in
    omega (arith, d, z)
step test o n (settle id (Some e)) h =
    let s = count_remove test o.entries h.0 e h.1 in
    let d : all_open test n ≡ in_all test (remove o.entries h.0) = ap (all_open test) h.3 in
    let z : count_by test [] ≡ 0 = refl in
    omega (arith, s, d, z)
step test o n (advance id now false) h =
    let d : all_open test n ≡ all_open test o = ap (all_open test) h.1 in
    let z : count_by test [] ≡ 0 = refl in
    omega (arith, d, z)
step test o n (advance id now true) h =
    let s = count_set test o.entries h.0 h.1.0 (with_next_upstream h.1.0 now) h.1.1 in
    let d : all_open test n ≡ in_all test
    (slice_set o.entries h.0 (with_next_upstream h.1.0 now)) = ap (all_open test) h.1.4 in
    let z : count_by test [] ≡ 0 = refl in
    omega (arith, s, d, z)
step test o n (clear ws) h =
    let d : count_by test ws ≡ all_open test o = ap (count_by test) h.0 in
    let e : all_open test n ≡ 0 = ap (all_open test) h.1 in
    let z : count_by test [] ≡ 0 = refl in
    omega (arith, d, e, z)

run : (test : WaiterData → Bool) (o n : PendingData) (cs : List Call) → Run o cs n
    → all_open test o + count_by test (flat_map waiters_accepted cs) ≡ count_by test
    (flat_map waiters_returned cs) + (count_by test (flat_map waiters_cleared cs) + all_open test n)
run test o n [] h =
    let d : all_open test n ≡ all_open test o = ap (all_open test) h in
    let z : count_by test [] ≡ 0 = refl in
    omega (arith, d, z)
run test o n (c ∷ cs) h =
    let s = step test o h.0 c h.1 in
    let r = run test h.0 n cs h.2 in
    let a = count-append test (waiters_accepted c) (flat_map waiters_accepted cs) in
    let b = count-append test (waiters_returned c) (flat_map waiters_returned cs) in
    let d = count-append test (waiters_cleared c) (flat_map waiters_cleared cs) in
    omega (arith, s, r, a, b, d)

pub each_as_often : EachAsOften
each_as_often o n cs h test =
    let r = run test o n cs h in
    let a = count-append test (open_waiters o) (flat_map waiters_accepted cs) in
    let b =
    count-append test (flat_map waiters_returned cs)
    (flat_map waiters_cleared cs ++ open_waiters n) in
    let d = count-append test (flat_map waiters_cleared cs) (open_waiters n) in
    omega (arith, r, a, b, d)
