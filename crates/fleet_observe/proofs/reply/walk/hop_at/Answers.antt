use Rattle.std.proofs.Common.{◌∙◌, sym, inl, inr}
use Rattle.fleet_name.specs.Name.{labels_of}
use Rattle.fleet_observe.proofs.Sections.{in_of}
use Rattle.fleet_observe.proofs.Walks.{alias_is}
use Rattle.fleet_observe.proofs.reply.walk.hop_at.Goals as goal

pub returns-in-One : goal.returns-in-One
returns-in-One g c =
    let is = c.in-One.ensures in (
      record { some = (_, is.1.member); single = λ _ d e a b. sym (is.1.only d a) ∙ is.1.only e b },
      is.0,
    )

pub returns-else-rtype-eq-CNAME : goal.returns-else-rtype-eq-CNAME
returns-else-rtype-eq-CNAME g c =
    let is = c.in-Several.ensures in (
      record {
        some = (_, in_of _ _ _ _ is.0);
        single = λ alias. absurd (c.if-rtype-eq-CNAME.false alias);
      },
      is.0,
    )

pub returns-then-rtype-eq-CNAME : goal.returns-then-rtype-eq-CNAME
returns-then-rtype-eq-CNAME g c =
    let two = c.in-Several.ensures.1 in
    record {
      endless = λ ends. elim ends [
        | inl found ↦ two.4 (found.single c.if-rtype-eq-CNAME.true two.0 two.1 two.2 two.3)
        | inr bare ↦ bare.without two.0 two.2
      ];
      aimless = λ m on. on.without two.0 two.2;
    }

pub returns-in-One-find_rrset : goal.returns-in-One-find_rrset
returns-in-One-find_rrset g c =
    let is = c.in-One-find_rrset.ensures in
    alias_is c.args.answer.now c.args.rtype (labels_of c.args.name.now)
    c.in-One-find_rrset.alias.now c.requires.plain c.in-Nothing.ensures is.0 is.1

pub returns-in-Several-find_rrset : goal.returns-in-Several-find_rrset
returns-in-Several-find_rrset g c =
    let two = c.in-Several-find_rrset.ensures.1 in let none = c.in-Nothing.ensures in
    record {
      endless = λ ends. elim ends [
        | inl found ↦ none found.some.0 found.some.1
        | inr bare ↦ bare.no_alias two.0 two.2
      ];
      aimless = λ m on. two.4 (sym (on.target.only two.0 two.2) ∙ on.target.only two.1 two.3);
    }
