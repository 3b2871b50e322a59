-- The steps of a run.
use Rattle.std.proofs.Common.{Bool, true, false, Option, Some, None, [], ◌∷◌, refl}
use Rattle.std.specs.Fn.{Mut, CalledAtTwo}
use denote.Ref.{Bor}
use Rattle.bptree_load_plan.specs.declared.dedup.Ahead.TheVariants.{Held, Ended}
use Rattle.bptree_load_plan.specs.declared.dedup.DeDupKeepLast.{DeDupKeepLast}
use Rattle.bptree_load_plan.specs.Dedup.{GivesFirst, TakesRun, GivesLastOfRun}

module _ {S F A : Type 0} (steps : S → Option A → S → Type 0) (g : Mut F (Bor A × (Bor A × Unit {0})) Bool) where
  -- if the first item is known, the run from it on is the next run
  pub started : (s : DeDupKeepLast S F A) (x : A) (u : S) → GivesFirst steps s.ahead s.source (Some x) u → (y : A) (t : DeDupKeepLast S F A) → TakesRun steps g u s.same x y t → GivesLastOfRun steps g s (Some y) t
  started s x u began y t run = record { first = Some x; source = u; began = began; run = run }

  -- a run continues with one more item that is the same
  pub goes_on : (u v : S) (f h : F) (x z y : A) (t : DeDupKeepLast S F A) → steps u (Some z) v → CalledAtTwo g f x z true h → TakesRun steps g v h z y t → TakesRun steps g u f x y t
  goes_on u v f h x z y t step called run = record {
    others = z ∷ run.others;
    source = run.source;
    same = run.same;
    gave = (v, step, run.gave);
    calls = ((h, z), (called, refl), run.calls);
    after = run.after;
    asked = run.asked;
    ends = run.ends;
  }

  -- a run ends before an item that is not the same, and at the end of the source
  pub parts : (u v : S) (f h : F) (x z : A) → steps u (Some z) v → CalledAtTwo g f x z false h → TakesRun steps g u f x x (record { source = v; ahead = Held z; same = h })
  parts u v f h x z step called = record { others = []; source = u; same = f; gave = refl; calls = refl; after = Some z; asked = step; ends = (refl, called) }

  pub ends : (u v : S) (f : F) (x : A) → steps u None v → TakesRun steps g u f x x (record { source = v; ahead = Ended; same = f })
  ends u v f x step = record { others = []; source = u; same = f; gave = refl; calls = refl; after = None; asked = step; ends = (refl, refl) }
