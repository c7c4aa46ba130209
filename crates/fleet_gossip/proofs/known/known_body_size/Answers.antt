use Rattle.fleet_gossip.proofs.known.known_body_size.Goals as goal

pub returns-in-Positive : goal.returns-in-Positive
returns-in-Positive c n rtype size = rw c.in-Positive.is
    (c.known_positive_size.ensures rtype size)

pub returns-in-NoData : goal.returns-in-NoData
returns-in-NoData c n rtype size = rw c.in-NoData.is (c.known_negative_size.ensures n size)

pub returns-in-NameError : goal.returns-in-NameError
returns-in-NameError c n rtype size = rw c.in-NameError.is
    (c.known_negative_size-in-NameError.ensures n size)
