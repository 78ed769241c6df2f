-- The three tests, one after the other.
use borrow.Author.Rules.{rules}
use Rattle.lookup.proofs.Rooms.{fits_out, fits_idle, fits_home}
use Rattle.lookup.proofs.fits.Goals as goal

pub returns-then-r-q : goal.returns-then-r-q
returns-then-r-q c = search (fits_out, rules)

pub returns-then-client-eq0 : goal.returns-then-client-eq0
returns-then-client-eq0 c = search (fits_idle, rules)

pub returns : goal.returns
returns c = search (fits_home, rules)
