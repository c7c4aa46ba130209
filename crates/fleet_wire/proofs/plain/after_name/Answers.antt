use Rattle.std.proofs.Common.{◌++◌, ◌∷◌, [], refl}
use mathlib.Core.Bool.{false≢true}
use Rattle.fleet_name.proofs.Lemmas.{named_root}
use Rattle.fleet_wire.proofs.PlainNames.{no_name, no_capital, more_whole, more_size, more_named, more_only}
use Rattle.fleet_wire.proofs.plain.after_name.Goals as goal

pub loop-rest-init : goal.loop-rest-init
loop-rest-init c =
    record {
      before = [];
      whole = refl;
      size = refl;
      named = named_root;
      only =
          λ n e r. (n, refl, r);
    }

pub returns-then-not-is_lower : goal.returns-then-not-is_lower
returns-then-not-is_lower c =
    let i = c.loop-rest.invariant in
    let found = rw (c.in-Ok-Label.field-0-is, c.in-Ok-Label.label-is) at c.in-Ok-Label.ensures in
    no_capital c.args.octets.now c.loop-rest.at i.before i.whole i.size i.named i.only
    c.in-Ok-Label.label.now found.0
    (λ h. false≢true ((rw c.if-not-is_lower.true at c.is_lower.ensures).1 h))

pub returns-in-Err : goal.returns-in-Err
returns-in-Err c =
    let i = c.loop-rest.invariant in
    no_name c.args.octets.now c.loop-rest.at i.before i.whole i.size i.named i.only _
    c.in-Err.ensures

pub loop-rest-preserved : goal.loop-rest-preserved
loop-rest-preserved c =
    let i = c.loop-rest.invariant in
    let label = c.in-Ok-Label.label.now in
    let m = c.args.octets.now in
    let at = c.loop-rest.at in
    let found = rw (c.in-Ok-Label.field-0-is, c.in-Ok-Label.label-is) at c.in-Ok-Label.ensures in
    let low = (rw c.if-not-is_lower.false at c.is_lower.ensures).0 refl in
    record {
      before = i.before ++ label ∷ [];
      whole = more_whole m at i.before i.whole i.size i.named i.only label found.0 low found.1;
      size = more_size m at i.before i.whole i.size i.named i.only label found.0 low found.1;
      named = more_named m at i.before i.whole i.size i.named i.only label found.0 low found.1;
      only = more_only m at i.before i.whole i.size i.named i.only label found.0 low found.1;
    }
