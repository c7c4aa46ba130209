use Rattle.std.proofs.Common.{◌≡◌, ◌<◌, ◌≤◌, ◌++◌, [], length, refl, sym, ap, ◌∙◌, subst, arith, true-eqb, false-eqb}
use Rattle.std.specs.Prelude.{IsTrue}
use Rattle.std.proofs.lemmas.Bool.{false≢true}
use Rattle.std.proofs.lemmas.List.{length-map, map-append}
use Rattle.std.proofs.lemmas.Result.{on_ok_weaker}
use Rattle.fleet_name.specs.Places.{NoTwo}
use Rattle.fleet_pending.specs.declared.addr.Addr.{Addr}
use Rattle.fleet_pending.specs.declared.bounds.TheConstants.{MOST_UPSTREAMS}
use Rattle.fleet_site.specs.declared.bounds.TheConstants.{MOST_PEERS}
use Rattle.fleet_program.specs.Findings.{Adds, none, some, addrs_of, faults_of}
use Rattle.fleet_program.specs.declared.settings.SettingsFault.TheVariants.{NoUpstream, TooManyUpstreams, TooManyPeers, AddressTwice}
use Rattle.fleet_program.proofs.ListedFaults.{adds_as, adds_others, extends_on, listed_together}
use Rattle.fleet_program.proofs.findings.find_together.Goals as goal
use Rattle.fleet_program.proofs.findings.find_together.Goals.{then-has_list+then-is_empty+in_ok-find_count, else-has_list, else-has_list-via-then-has_list+else-is_empty, else-has_list-via-else-has_list, then-upstreams-from+in_ok-find_count-2, else-upstreams-from, then-peers-gt-MOST_PEERS+in_ok-find_count-3, else-peers-gt-MOST_PEERS}

pub returns : goal.returns
returns c =
    let us = addrs_of c.args.upstreams.now in
    let ps = addrs_of c.args.peers.now in
    let lu : length us ≡ length c.args.upstreams.now = length-map _ _ in
    let lp : length ps ≡ length c.args.peers.now = length-map _ _ in
    let old = faults_of c.args.findings.now.items in
    let a = faults_of c.if-has_list.findings.items in
    let b = faults_of c.if-upstreams-from.findings.items in
    let d = faults_of c.if-peers-gt-MOST_PEERS.findings.items in
    let new = faults_of c.find_twice.new.findings.items in
    let ha : Adds (IsTrue c.args.has_list → 1 ≤ length us)
    (λ fault. (length us ≡ 0) × (fault ≡ NoUpstream)) old a =
    elim c.if-has_list.branch [
      | then-has_list+then-is_empty+in_ok-find_count w ↦
          some NoUpstream [] (lu ∙ true-eqb _ _ w.if-is_empty.ensures, refl)
          (ap (λ v. faults_of v.items) w.findings-is ∙ w.in_ok-find_count.ensures)
      | else-has_list w ↦ none (elim w.else-has_list.branch [
        | else-has_list-via-then-has_list+else-is_empty w' ↦
            λ _. omega (arith, false-eqb _ _ w'.if-is_empty.ensures)
        | else-has_list-via-else-has_list w' ↦
            λ given. absurd (false≢true (sym w'.if-has_list.false ∙ given))
      ])
          (ap (λ v. faults_of v.items) w.findings-is)
    ] in
    let hb : Adds (length us ≤ MOST_UPSTREAMS)
    (λ fault. (MOST_UPSTREAMS < length us) × (fault ≡ TooManyUpstreams)) a b =
    elim c.if-upstreams-from.branch [
      | then-upstreams-from+in_ok-find_count-2 w ↦ some TooManyUpstreams [] (omega arith, refl)
          (ap (λ v. faults_of v.items) w.findings-is ∙ w.in_ok-find_count-2.ensures)
      | else-upstreams-from w ↦ none (omega arith) (ap (λ v. faults_of v.items) w.findings-is)
    ] in
    let hd : Adds (length ps ≤ MOST_PEERS)
    (λ fault. (MOST_PEERS < length ps) × (fault ≡ TooManyPeers)) b d =
    elim c.if-peers-gt-MOST_PEERS.branch [
      | then-peers-gt-MOST_PEERS+in_ok-find_count-3 w ↦ some TooManyPeers [] (omega arith, refl)
          (ap (λ v. faults_of v.items) w.findings-is ∙ w.in_ok-find_count-3.ensures)
      | else-peers-gt-MOST_PEERS w ↦ none (omega arith) (ap (λ v. faults_of v.items) w.findings-is)
    ] in
    let whole : addrs_of c.deref.result.now ≡ us ++ ps =
    ap addrs_of (c.deref.ensures.value ∙ (c.in_ok-extend_from_slice.ensures.items
    ∙ ap (λ l. l ++ c.args.peers.now) c.in_ok-stated.ensures.items))
    ∙ map-append (λ s. s.addr) c.args.upstreams.now c.args.peers.now in
    record {
      rest = on_ok_weaker c.find_twice.result (λ twice.
          extends_on old a new (adds_others _ _ old a ha)
          (extends_on a b new (adds_others _ _ a b hb)
          (extends_on b d new (adds_others _ _ b d hd) (adds_others _ _ d new twice))))
          c.find_twice.ensures;
      faults = on_ok_weaker c.find_twice.result (λ twice given.
          listed_together us ps old a b d new (adds_as _ _ _ old a (λ some. some given) ha) hb hd
          (subst (λ l. Adds (NoTwo (λ (x y : Addr). x ≡ y) l)
          (λ fault. (NoTwo (λ (x y : Addr). x ≡ y) l → ⊥) × (fault ≡ AddressTwice)) d new) whole
          twice))
          c.find_twice.ensures;
    }
