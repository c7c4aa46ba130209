use Rattle.std.proofs.Common.{[], Result, Ok, Err, IfOk, inl, inr, sym, ap, ◌∙◌, arith}
use Rattle.std.proofs.lemmas.List.{append-nil, length-map}
use Rattle.toml.specs.Data.{as_array}
use Rattle.toml.specs.View.{view}
use Rattle.fleet_program.specs.Configuration.{ReadsItems}
use Rattle.fleet_program.specs.Findings.{faults_of, addrs_of}
use Rattle.fleet_program.specs.declared.settings.SettingsFault.{SettingsFault}
use Rattle.fleet_program.specs.declared.findings.Finding.{Finding}
use Rattle.fleet_program.proofs.ListedFaults.{list_adds}
use Rattle.fleet_program.proofs.findings.find_in_list.Goals as goal
use Rattle.fleet_program.proofs.findings.find_in_list.Goals.{then-len-count+in_ok-find_in_value, else-len-count, then-eq+in_ok-find_in_items-2, else-eq}

-- what holds of any value holds of that of an `Ok`
of_any : (T E : Type 0) (r : Result T E) (P : T → Type 0) → ((x : T) → P x) → IfOk r P
of_any T E (Ok x) P all = all x
of_any T E (Err e) P all = tt

pub returns : goal.returns
returns c =
    of_any _ _ c.good_in.result _ (λ stated.
    list_adds (ReadsItems (as_array (view c.args.value.now)) (Ok (addrs_of stated.items)))
    (λ fault. ReadsItems (as_array (view c.args.value.now)) (Err fault)) c.in-Err.fault
    (faults_of c.args.findings.now.items) (faults_of c.find_in_items.new.findings.items)
    (faults_of c.if-len-count.findings.items) (faults_of c.if-eq.findings.items) c.in-Err.ensures
    c.in_ok-find_in_items.ensures
    (elim c.if-len-count.branch [
      | then-len-count+in_ok-find_in_value w ↦ inl (
        omega (arith, length-map {A = Finding} {B = SettingsFault}),
        ap (λ v. faults_of v.items) w.findings-is ∙ w.in_ok-find_in_value.ensures,
      )
      | else-len-count w ↦ inr (
        (λ same. w.if-len-count.false
            (omega (arith, length-map {A = Finding} {B = SettingsFault}))),
        ap (λ v. faults_of v.items) w.findings-is,
      )
    ])
    (elim c.if-eq.branch [
      | then-eq+in_ok-find_in_items-2 w ↦ (
        w.in_ok-find_in_items-2.ensures.0,
        ap (λ v. faults_of v.items) w.findings-is ∙ w.in_ok-find_in_items-2.ensures.1,
      )
      | else-eq w ↦ (
        [],
        ap (λ v. faults_of v.items) w.findings-is
            ∙ sym (append-nil (faults_of c.if-len-count.findings.items)),
      )
    ]))
