-- What lists of calls make is covered, and so is what calls of every kind leave of it.
use mathlib.Core.Path.{◌≡◌, refl, sym, ap, ◌∙◌, subst}
use mathlib.Core.List.{List, [], ◌∷◌, ◌++◌, map}
use Rattle.track.specs.Calls.{SetTimeScale, Pause, Resume, track_step}
use Rattle.timeline.specs.declared.timeline.Timeline.{Timeline}
use Rattle.timeline.specs.Placements.{empty}
use Rattle.timeline.specs.Calls.{Call, On, step, after}
use Rattle.history.specs.Invariant.{Invariant}
use Rattle.history.specs.Claim.{OwnBuilt, Seeks}
use Rattle.history.specs.Covered.{Covered, Coverage}
use Rattle.history.proofs.Kept.{kept}
use Rattle.history.proofs.Claim.{claim}
use Rattle.history.proofs.InPlace.{stands, played}

-- more calls on what a list made
after-append : (t : Timeline) (xs ys : List Call) → after t (xs ++ ys) ≡ after (after t xs) ys
unfolding after
after-append t [] ys = refl
after-append t (x ∷ xs) ys = after-append (step t x).timeline xs ys

-- so they leave it covered
after-covered : (t : Timeline) (calls : List Call) → Covered t → Covered (after t calls)
after-covered t calls c = record { calls = c.calls ++ calls; made = ap (λ (x : Timeline). after x calls) c.made ∙ sym (after-append empty c.calls calls) }

sound : (t : Timeline) → Covered t → Invariant t
sound t c = subst Invariant (sym c.made) (kept.list c.calls)

step-covered : (t : Timeline) (call : Call) → Covered t → Covered (step t call).timeline
unfolding after
step-covered t call c = after-covered t (call ∷ []) c

pub coverage : Coverage
unfolding step track_step
coverage =
    record {
      lists = λ calls. record { calls = calls; made = refl };
      calls = step-covered;
      tracks = λ t call c. step-covered t (On call) c;
      pauses = λ t c. step-covered t (On Pause) c;
      resumes = λ t c. step-covered t (On Resume) c;
      scales = λ t x c. step-covered t (On (SetTimeScale x)) c;
      lays = λ t c. stands t;
      columns = λ t calls c. played t calls (sound t c);
      gathers = λ t calls c. subst Covered (sym (played t calls (sound t c)).back) (after-covered t (map On calls) c);
      own = λ t c. subst (OwnBuilt c.calls) (sym c.made) (claim c.calls).0;
      seeks = λ t c. subst Seeks (sym c.made) (claim c.calls).1;
      sound = sound;
    }
