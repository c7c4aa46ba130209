use Rattle.std.proofs.Common.{◌≡◌, ◌++◌, List, ℕ, Option, Some, None, Ok, Err, refl, sym, ap, ◌∙◌, subst}
use Rattle.std.specs.Prelude.{codes, IsSome, option_and_then}
use Rattle.toml.specs.Data.{Data, Items, as_array}
use Rattle.toml.specs.View.{table_view}
use Rattle.toml.proofs.Views.{table_get}
use Rattle.fleet_pending.specs.declared.addr.Addr.{Addr}
use Rattle.fleet_program.specs.Configuration.{HasKeys, ReadsListen, ReadsItems, ReadsUpstreams, ReadsPeers, ReadsSweep, listen_in, upstreams_in, sweep_in}
use Rattle.fleet_program.specs.Findings.{Adds, addrs_of, faults_of, listed}
use Rattle.fleet_program.specs.declared.settings.SettingsFault.TheVariants.{UnknownKey, MissingKey, WrongKind}
use Rattle.fleet_program.proofs.Configurations.{listen_at, sweep_at}
use Rattle.fleet_program.proofs.ListedFaults.{adds_reading, listed_all}
use Rattle.fleet_program.proofs.findings.findings_in.Goals as goal

-- where upstreams are read, a list stands there
is_list_read : (value : Option Data) (upstreams : List Addr) → ReadsUpstreams value (Ok upstreams)
    → IsSome (option_and_then as_array value)
is_list_read None upstreams h = absurd (let e : Ok upstreams ≡ Err MissingKey = h in cc)
is_list_read (Some value) upstreams h = some_items (as_array value) h
  where
    some_items : (items : Option Items) → ReadsItems items (Ok upstreams) → IsSome items
    some_items None h = absurd (let e : Ok upstreams ≡ Err WrongKind = h in cc)
    some_items (Some items) h = refl

pub returns : goal.returns
returns c =
    let table = table_view c.args.table.now in
    let es = c.args.table.now.entries in
    let us = addrs_of c.in_ok-upstreams.upstreams.items in
    let ps = addrs_of c.in_ok-peers.peers.items in
    let a = faults_of c.find_in_keys.new.findings.items in
    let b = faults_of c.find_in_value.new.findings.items in
    let d = faults_of c.find_in_upstreams.new.findings.items in
    let e = faults_of c.find_in_peers.new.findings.items in
    let f = faults_of c.find_in_value-2.new.findings.items in
    let g = faults_of c.find_together.new.findings.items in
    listed_all table a b d e f g us ps
    (subst (λ fs. Adds (HasKeys table) (λ fault. (HasKeys table → ⊥) × (fault ≡ UnknownKey))
    (faults_of fs) a) c.new-findings.ensures.items c.in_ok-find_in_keys.ensures)
    (adds_reading Addr (λ r. ReadsListen (listen_in table) r) c.listen_of.result a b
    (listen_at es c.listen_of.result c.get-listen.result c.get-listen.ensures.value
    c.listen_of.ensures)
    (c.in_ok-find_in_value.ensures ∙ ap (λ x. a ++ listed x) c.err.ensures.value))
    (subst (λ v. Adds (ReadsUpstreams v (Ok us)) (λ fault. ReadsUpstreams v (Err fault)) b d)
    (table_get c.get-upstreams.result (codes "upstreams") es c.get-upstreams.ensures.value)
    c.in_ok-upstreams.ensures)
    (subst (λ v. Adds (ReadsPeers v (Ok ps)) (λ fault. ReadsPeers v (Err fault)) d e)
    (table_get c.get.result (codes "peers") es c.get.ensures.value) c.in_ok-peers.ensures)
    (adds_reading ℕ (λ r. ReadsSweep (sweep_in table) r) c.sweep_of.result e f
    (sweep_at es c.sweep_of.result c.get-sweep.result c.get-sweep.ensures.value
    c.sweep_of.ensures)
    (c.in_ok-find_in_value-2.ensures ∙ ap (λ x. e ++ listed x) c.err-2.ensures.value))
    c.in_ok-find_together.ensures.rest
    (λ up. rw (← c.deref.ensures.value, ← c.deref-2.ensures.value)
    (c.in_ok-find_together.ensures.faults (c.is_list-has_list.ensures.1
    (subst (λ v. IsSome (option_and_then as_array v))
    (sym (table_get c.get-upstreams.result (codes "upstreams") es c.get-upstreams.ensures.value))
    (is_list_read (upstreams_in table) us up)))))
