-- The labels from here on are still to be written.
use lib.ListN.{drop}
use Rattle.digits.specs.Digits.{put_at}
use Rattle.sheet_format.specs.Write.{texts_of}
use Rattle.sheet_format.proofs.Stores.{Left}
use Rattle.sheet_format.proofs.writing.put_texts.Given as goal

abbrev pub invariant-loop-item : goal.invariant-loop-item
invariant-loop-item l = Left (put_at (texts_of l.items) l.start l.initial.room) (texts_of (drop l.item-index l.items)) l.at l.initial.room l.room
