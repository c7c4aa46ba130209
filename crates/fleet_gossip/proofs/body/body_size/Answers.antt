use Rattle.std.proofs.Common.{[], refl}
use Rattle.fleet_gossip.proofs.body.body_size.Goals as goal

pub returns-in-Positive : goal.returns-in-Positive
returns-in-Positive c n named is = rw c.in-Positive.is c.positive_size.ensures

pub returns-in-NoData : goal.returns-in-NoData
returns-in-NoData c n named is = rw c.in-NoData.is (c.negative_size.ensures n named is)

pub returns-in-NameError : goal.returns-in-NameError
returns-in-NameError c n named is = rw c.in-NameError.is
    (c.negative_size-in-NameError.ensures n named is)

pub returns-in-Flush : goal.returns-in-Flush
returns-in-Flush c n named is = rw c.in-Flush.is (record {
  part = [];
  rest = c.args.octets.now;
  is = record { whole = refl; lawful = refl };
  counted = refl;
})
