-- The headers' cases, computed.
use mathlib.Core.Path.{refl}
use Rattle.sheet.specs.Cases.{HeaderCases}

pub header_cases : HeaderCases
header_cases =
    record {
      most_then = (refl, refl);
      longer = (refl, refl);
      low_byte_full = (refl, refl);
      most = (refl, refl);
      too_many = (refl, refl);
      count_first = (refl, refl);
      mode_next = (refl, refl);
      mode_unread = (refl, refl);
      too_short = (refl, refl);
      long_enough = (refl, refl);
    }
