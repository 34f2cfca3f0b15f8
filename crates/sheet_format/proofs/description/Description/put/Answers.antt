-- Header, pairs, records and labels, one after the other.
use mathlib.Core.Path.{◌∙◌}
use native.Mathlib.Omega.{arith}
use Rattle.sheet_rules.specs.Rules.{labels_at}
use Rattle.sheet_format.specs.Descriptions.{items_in}
use Rattle.sheet_format.specs.Write.{header_bytes, pairs_of, records_of, texts_of, sheet_of}
use Rattle.sheet_format.proofs.Sheets.{length-header}
use Rattle.sheet_format.proofs.Stores.{put_at_parts}
use Rattle.sheet_format.proofs.Turns.{length_pairs, length-records}
use Rattle.sheet_format.proofs.description.Description.put.Goals as goal

pub put_pairs-requires : goal.put_pairs-requires
put_pairs-requires c =
    rw (c.items-items.ensures.value, c.requires.items) (c.requires.few, omega (arith, c.requires.fits))

pub put_records-requires : goal.put_records-requires
put_records-requires c =
    rw (c.items-items.ensures.value, c.requires.items) (c.requires.few, omega (arith, c.requires.fits), c.requires.targets)

pub put_texts-requires : goal.put_texts-requires
put_texts-requires c =
    let e = rw (c.items-items.ensures.value, c.requires.items) at c.labels_at.ensures in
    rw c.items-items.ensures.value (omega (arith, e, c.requires.fits))

pub returns : goal.returns
unfolding sheet_of
returns c =
    let d = c.args.self.now in
    let v = c.items-items.ensures.value in
    let g = c.requires in
    let e = rw (v, g.items) at c.labels_at.ensures in
    let pairs = rw (v, g.items) at c.put_pairs.ensures in
    let records = rw (v, g.items) at c.put_records.ensures in
    let texts = rw v at c.put_texts.ensures in
    put_at_parts (header_bytes d.count d.looping d.time_scale) (pairs_of (labels_at d.count) (items_in d)) (records_of (items_in d)) (texts_of (items_in d)) d.count c.labels_at.result _ _ _ _ _
    (length-header d.count d.looping d.time_scale)
    (length_pairs (labels_at d.count) (items_in d) ∙ rw g.items)
    (length-records (items_in d) ∙ rw g.items)
    e
    (omega (arith, e, g.fits))
    c.put_header.ensures
    pairs
    records
    texts
