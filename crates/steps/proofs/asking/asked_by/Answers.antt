use Rattle.steps.proofs.asking.asked_by.Goals as goal

pub returns-in-Link : goal.returns-in-Link
returns-in-Link c = rw (c.in-Link.is, c.link_named.ensures)

pub returns-in-LinkStandBy : goal.returns-in-LinkStandBy
returns-in-LinkStandBy c = rw (c.in-LinkStandBy.is, c.stand_by_named.ensures)

pub returns-in-LinkWindows : goal.returns-in-LinkWindows
returns-in-LinkWindows c = rw (c.in-LinkWindows.is, c.windows_named.ensures)

pub returns-in-LinkFrames : goal.returns-in-LinkFrames
returns-in-LinkFrames c = rw (c.in-LinkFrames.is, c.framing_named.ensures)

pub returns-in-Admit : goal.returns-in-Admit
returns-in-Admit c = rw (c.in-Admit.is, c.connection_named.ensures)

pub returns-in-AdmitStamped : goal.returns-in-AdmitStamped
returns-in-AdmitStamped c = rw (c.in-AdmitStamped.is, c.stamped_named.ensures)

pub returns-in-AdmitShare : goal.returns-in-AdmitShare
returns-in-AdmitShare c = rw (c.in-AdmitShare.is, c.share_named.ensures)

pub returns-in-Close : goal.returns-in-Close
returns-in-Close c = rw c.in-Close.is

pub returns-in-Offer : goal.returns-in-Offer
returns-in-Offer c = rw (c.in-Offer.is, c.offer_of.ensures)

pub returns-in-OfferStamped : goal.returns-in-OfferStamped
returns-in-OfferStamped c = rw (c.in-OfferStamped.is, c.offer_of-in-OfferStamped.ensures)

pub returns-in-Notice : goal.returns-in-Notice
returns-in-Notice c = rw c.in-Notice.is

pub returns-in-Ticks : goal.returns-in-Ticks
returns-in-Ticks c = rw c.in-Ticks.is
