use Rattle.std.proofs.Common.{◌++◌, drop, length, sym, ap, ◌∙◌, arith}
use Rattle.std.specs.List.{flat_map}
use Rattle.std.proofs.lemmas.List.{drop_all}
use Rattle.fleet_wire.specs.Number.{u16_octets}
use Rattle.fleet_observe.specs.Body.{octets_with_length}
use Rattle.fleet_observe.proofs.Bodies.{fewer_than_octets}
use Rattle.fleet_observe.proofs.Lent.{behind_same, next_same, next_short, no_next, both_ways, told_false, told_empty}
use Rattle.fleet_observe.proofs.observation.lent.is_positive_body.Goals as goal

pub behind_u16-requires : goal.behind_u16-requires
behind_u16-requires g c = omega (arith, fewer_than_octets c.args.rdatas.now, c.requires)

pub returns-in_default : goal.returns-in_default
returns-in_default g c = told_false
    (λ whole. c.in_default.ensures (flat_map octets_with_length c.args.rdatas.now) whole)

pub loop-rdata-init : goal.loop-rdata-init
loop-rdata-init g c = record {
  same = behind_same c.args.octets.now (u16_octets (length c.args.rdatas.now)) c.in-Some.rest.now
      (flat_map octets_with_length c.args.rdatas.now) c.in-Some.ensures;
  short = omega (arith, c.requires);
}

pub behind_sized-requires : goal.behind_sized-requires
behind_sized-requires g c =
    let short = next_short c.args.rdatas.now c.loop-rdata.rdata-index c.rdata-item.result
    (omega arith) c.rdata-item.is in
    omega (arith, short, c.loop-rdata.invariant.short, ap length c.as_slice.ensures)

pub returns-in_default-behind_sized : goal.returns-in_default-behind_sized
returns-in_default-behind_sized g c = told_false (λ whole.
    no_next c.args.rdatas.now c.loop-rdata.rdata-index c.rdata-item.result c.loop-rdata.rest.now
    (omega arith) c.rdata-item.is
    (λ next e. c.in_default-behind_sized.ensures next
    (e ∙ ap (λ v. octets_with_length v ++ next) (sym c.as_slice.ensures)))
    (c.loop-rdata.invariant.same.0 whole))

pub loop-rdata-preserved : goal.loop-rdata-preserved
loop-rdata-preserved g c =
    let i = c.loop-rdata.rdata-index in
    let x = c.rdata-item.result in
    let next = c.in-Some-behind_sized.next.now in
    let short = next_short c.args.rdatas.now i x (omega arith) c.rdata-item.is in
    record {
      same = both_ways c.loop-rdata.invariant.same
          (next_same c.args.rdatas.now i x c.loop-rdata.rest.now next (omega arith)
          c.rdata-item.is (c.in-Some-behind_sized.ensures
          ∙ ap (λ v. octets_with_length v ++ next) c.as_slice.ensures));
      short = omega (arith, short, c.loop-rdata.invariant.short);
    }

pub returns : goal.returns
returns g c = told_empty c.loop-rdata.rest.now
    (flat_map octets_with_length (drop c.loop-rdata.rdata-index c.args.rdatas.now))
    c.is_empty.result c.is_empty.ensures
    (ap (flat_map octets_with_length)
    (drop_all c.loop-rdata.rdata-index c.args.rdatas.now c.loop-rdata-test.false))
    c.loop-rdata.invariant.same
