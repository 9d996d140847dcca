-- What a quarter that a text tells means.
use Rattle.std.specs.Prelude.{None, slice_index_or}
use Rattle.std.specs.Option.{unwrap_or}
use Rattle.source.specs.Meanings.{Meaning}
use Rattle.quarter_text.specs.declared.quarter.TextQuarter.{TextQuarter}

-- the named slots are told as the text has them, and the others as it has those
abbrev pub meaning_of : TextQuarter → Meaning
meaning_of q = record { slots = λ k. unwrap_or (slice_index_or q.named k None) q.others; zone = q.zone_net; avoided = q.avoided }
