-- The requests that the header counts, against the places.
use lib.Dec.{lit<}
use Rattle.rules.proofs.Ready.{ready_sized}
use Rattle.steps.proofs.Reading.{full_is}
use Rattle.steps.proofs.full.Goals as goal

pub header-requests-requires : goal.header-requests-requires
header-requests-requires c = record { sized = ready_sized c.requires; f_lt_header_words = lit< tt }

pub returns : goal.returns
returns c =
    full_is c.requires c.header-requests.ensures
