use Rattle.std.proofs.Common.{[], refl, sym, subst}
use Rattle.std.proofs.lemmas.Bool.{false≢true}
use Rattle.toml.specs.View.{members_view, table_view}
use Rattle.fleet_program.specs.Configuration.{HasKeys, IsKey}
use Rattle.fleet_program.specs.Findings.{none, some, faults_of}
use Rattle.fleet_program.specs.declared.settings.SettingsFault.TheVariants.{UnknownKey}
use Rattle.fleet_program.proofs.ListedFaults.{adds_as, keys_on, one_more}
use Rattle.fleet_program.proofs.findings.find_in_keys.Goals as goal

pub loop-key-preserved-in-Continue-1 : goal.loop-key-preserved-in-Continue-1
loop-key-preserved-in-Continue-1 c = (
  tt,
  tt,
  keys_on (table_view c.args.table.now) c.loop-key.key-iterator c.next.new.self
      (c.in-Some.key.now, c.in-Some.value.now) (faults_of c.args.findings.now.items)
      (faults_of c.loop-key.findings.items) (faults_of c.push.new.self.items)
      c.in-Some.ensures.steps c.loop-key.invariant.2
      (some UnknownKey [] (
        (λ k. false≢true (c.if-not-is_known.ensures.1
            (subst IsKey (sym c.as_str.ensures.value) k))),
        refl,
      )
      (one_more _ _ _ c.in_ok-push.ensures.items)),
)

pub loop-key-preserved : goal.loop-key-preserved
loop-key-preserved c = (
  tt,
  tt,
  keys_on (table_view c.args.table.now) c.loop-key.key-iterator c.next.new.self
      (c.in-Some.key.now, c.in-Some.value.now) (faults_of c.args.findings.now.items)
      (faults_of c.loop-key.findings.items) (faults_of c.loop-key.findings.items)
      c.in-Some.ensures.steps c.loop-key.invariant.2
      (none (subst IsKey c.as_str.ensures.value (c.if-not-is_known.ensures.0 refl)) refl),
)

pub returns : goal.returns
returns c =
    adds_as _ _ _ _ _ (λ same. same.0
    (subst (λ es. HasKeys (members_view es)) (sym c.in-None.ensures.steps.0) tt))
    c.loop-key.invariant.2
