use Rattle.std.proofs.Common.{sym, ap, ◌∙◌}
use Rattle.fleet_observe.specs.Observation.{kind_number}
use Rattle.fleet_cache.proofs.SameKeys.{other_kind, other_type, same_name}
use Rattle.fleet_cache.proofs.item.has_key_of.Goals as goal

pub returns-then-number : goal.returns-then-number
returns-then-number g c = other_kind c.args.one.now c.args.other.now (λ e. c.if-number.true
    (c.number.ensures ∙ (ap kind_number c.kind.ensures.value
    ∙ (e ∙ sym (c.number-2.ensures ∙ ap kind_number c.kind-2.ensures.value)))))

pub returns-then-rtype : goal.returns-then-rtype
returns-then-rtype g c = other_type c.args.one.now c.args.other.now (λ e. c.if-rtype.true
    (c.rtype.ensures.value ∙ (e ∙ sym c.rtype-2.ensures.value)))

pub returns : goal.returns
returns g c =
    let kind = sym (c.number.ensures ∙ ap kind_number c.kind.ensures.value)
    ∙ (c.if-number.false ∙ (c.number-2.ensures ∙ ap kind_number c.kind-2.ensures.value)) in
    let rtype = sym c.rtype.ensures.value ∙ (c.if-rtype.false ∙ c.rtype-2.ensures.value) in
    rw (c.is_eq.ensures, c.cmp.ensures, c.name.ensures.value, c.name-2.ensures.value)
    (same_name c.args.one.now c.args.other.now kind rtype)
