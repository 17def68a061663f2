-- `asked::pair` meets its contract: each return by what the numbers are. Assumes nothing.
use Rattle.hubsettings.specs.Asked.{asked_pair}
use Rattle.hubsettings.proofs.asked.pair.Goals as goal

pub returns-in_default : goal.returns-in_default
unfolding asked_pair
returns-in_default c = rw c.in_default.is

pub returns-in_default-earlier : goal.returns-in_default-earlier
unfolding asked_pair
returns-in_default-earlier c = rw (c.in-Value.is, c.in_default-earlier.is)

pub returns : goal.returns
unfolding asked_pair
returns c = rw (c.in-Value.is, c.in-Value-earlier.is)
