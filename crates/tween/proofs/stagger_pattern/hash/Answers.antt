-- `hash` is the definition's: each `^` of words is its `xor`.
use Rattle.tween.proofs.Xor.{hash_same}
use Rattle.tween.proofs.stagger_pattern.hash.Goals as goal

pub returns : goal.returns
returns c = hash_same c.args.index c.ranges.seed.fits
