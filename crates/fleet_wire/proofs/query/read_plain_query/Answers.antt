use Rattle.std.proofs.Common.{◌+◌, ◌++◌, length, List, ℕ, sym, ap, ◌∙◌, arith}
use Rattle.fleet_name.specs.Name.{wire}
use Rattle.fleet_name.proofs.Lemmas.{labels_of-spelled}
use Rattle.fleet_wire.proofs.ReadPlainQuery.{front_is, name_lent, question_lies, plain_behind}
use Rattle.fleet_wire.proofs.query.read_plain_query.Goals as goal

pub returns-then-is_cut-clause-only : goal.returns-then-is_cut-clause-only
returns-then-is_cut-clause-only c h q plain =
    let found = c.in_ok-others.ensures in
    absurd (omega (
      arith,
      plain_behind c.args.message.now h q found.0 c.in_ok-others.others.now found.1
          (sym c.split_at.ensures.back ∙ found.2) plain,
      c.if-is_cut.true,
    ))

pub invariant_of-question : goal.invariant_of-question
invariant_of-question c =
    let found = c.in_ok-others.ensures in
    let name = c.split_at-2.ensures.front
    ∙ front_is c.split_at.result.1.now (wire found.0) c.in_ok-others.others.now found.2 in
    name_lent c.split_at-2.result.0.now found.0 found.1 name

pub returns-clause-found : goal.returns-clause-found
returns-clause-found c =
    let found = c.in_ok-others.ensures in
    let name = c.split_at-2.ensures.front
    ∙ front_is c.split_at.result.1.now (wire found.0) c.in_ok-others.others.now found.2 in
    let is = labels_of-spelled c.split_at-2.result.0.now found.0 found.1.labels name in
    let enough = c.if-is_cut.false in
    let in_full = sym c.split_at.ensures.back ∙ found.2 in
    record {
      past = 12 + length (wire found.0) + 4;
      query = record {
        counted = c.in-Ok.ensures.0;
        header = c.in-Ok.ensures.1;
        question =
            rw is
            (question_lies c.args.message.now found.0 c.in_ok-others.others.now
            c.in-Ok.ensures.0.long found.1 in_full c.split_at-2.result.0.now c.read_u16.result
            c.read_u16-2.result name enough c.read_u16.ensures c.read_u16-2.ensures);
      };
      lower_case = name ∙ ap wire (sym is);
      others = c.in_ok-others.others.now;
      in_full = in_full ∙ ap (λ (n : List (List ℕ)). wire n ++ c.in_ok-others.others.now) (sym is);
    }
