-- The part that a caption names.
use Prim.Native.Nat.{ℕ, ◌+◌, ◌≤◌, ◌<◌, ◌-◌}
use mathlib.Core.Path.{◌≡◌, refl, sym, ap, subst, ◌∙◌}
use mathlib.Core.List.{List, []}
use native.Mathlib.Nat.{add-zero}
use native.Mathlib.Omega.{arith}
use lib.ListN.{length, take, drop}
use denote.Ref.{Bor}
use Rattle.caption.specs.declared.finder.Source.{Source}
use Rattle.caption.specs.declared.finder.Source.TheVariants.{Sheet, List as Venue}
use Rattle.caption.specs.Captions.{Answer, refused_caption, caption_of, named, IsPart}
use Rattle.caption.proofs.Claim.{claim}

-- it lies inside the slice that is named
pub inside : (list sheet : List ℕ) (entry : ℕ) (found : Answer) → found ≡ caption_of list sheet entry → found.at + found.len ≤ length (named found.source list sheet)
inside list sheet entry found is = rw is (claim.holds list sheet entry).inside

-- its end is below what both lengths are below
pub end_fits : (list sheet : List ℕ) (entry : ℕ) (found : Answer) → found ≡ caption_of list sheet entry → (m : ℕ) → length list < m → length sheet < m → found.at + found.len < m
end_fits list sheet entry found is m a b = either found.source list sheet _ m (inside list sheet entry found is) a b
  where
    either : (s : Source) (list sheet : List ℕ) (n m : ℕ) → n ≤ length (named s list sheet) → length list < m → length sheet < m → n < m
    either Sheet list sheet n m h a b = omega arith
    either Venue list sheet n m h a b = omega arith

-- of a refused call, the empty start of the sheet
pub is_start : (list sheet : Bor (List ℕ)) (caption : Answer) (number : ℕ) → refused_caption number ≡ caption → IsPart caption list sheet (record { ref_ptr = sheet.ref_ptr; now = [] })
is_start list sheet caption number is = rw (← is) (record { bytes = refl; block = refl; place = sym (add-zero sheet.ref_ptr.1) })

-- ---- by the source

module _ {A : Type 0} (list sheet : A) where
  named-list : (s : Source) → s ≡ Venue → named s list sheet ≡ list
  named-list s e = rw e

  named-sheet : (s : Source) → s ≡ Sheet → named s list sheet ≡ sheet
  named-sheet s e = rw e

module _ (list sheet : List ℕ) (entry : ℕ) (found : Answer) (is : found ≡ caption_of list sheet entry) where
  pub in_list : found.source ≡ Venue → found.at + found.len ≤ length list
  in_list e = subst (λ (s : Source). found.at + found.len ≤ length (named s list sheet)) e (inside list sheet entry found is)

  pub in-sheet : found.source ≡ Sheet → found.at + found.len ≤ length sheet
  in-sheet e = subst (λ (s : Source). found.at + found.len ≤ length (named s list sheet)) e (inside list sheet entry found is)

-- a part of the slice that is named, from `at` to the end
pub is_part : (found caption : Answer) (list sheet slice part : Bor (List ℕ)) → found ≡ caption → named found.source list sheet ≡ slice → named found.source list.now sheet.now ≡ slice.now
    → part.now ≡ take (found.at + found.len - found.at) (drop found.at slice.now) → part.ref_ptr.0 ≡ slice.ref_ptr.0 → part.ref_ptr.1 ≡ found.at + slice.ref_ptr.1 → IsPart caption list sheet part
is_part found caption list sheet slice part is names lists bytes block place =
    let n : found.at + found.len - found.at ≡ found.len = omega arith in
    let p : found.at + slice.ref_ptr.1 ≡ slice.ref_ptr.1 + found.at = omega arith in
    rw (← is) (record {
      bytes = bytes ∙ rw (n, lists);
      block = block ∙ ap (λ (r : Bor (List ℕ)). r.ref_ptr.0) (sym names);
      place = place ∙ p ∙ ap (λ (r : Bor (List ℕ)). r.ref_ptr.1 + found.at) (sym names);
    })

pub part-of_list : (found caption : Answer) (list sheet part : Bor (List ℕ)) → found ≡ caption → found.source ≡ Venue
    → part.now ≡ take (found.at + found.len - found.at) (drop found.at list.now) → part.ref_ptr.0 ≡ list.ref_ptr.0 → part.ref_ptr.1 ≡ found.at + list.ref_ptr.1 → IsPart caption list sheet part
part-of_list found caption list sheet part is e = is_part found caption list sheet list part is (named-list list sheet found.source e) (named-list list.now sheet.now found.source e)

pub part-of_sheet : (found caption : Answer) (list sheet part : Bor (List ℕ)) → found ≡ caption → found.source ≡ Sheet
    → part.now ≡ take (found.at + found.len - found.at) (drop found.at sheet.now) → part.ref_ptr.0 ≡ sheet.ref_ptr.0 → part.ref_ptr.1 ≡ found.at + sheet.ref_ptr.1 → IsPart caption list sheet part
part-of_sheet found caption list sheet part is e = is_part found caption list sheet sheet part is (named-sheet list sheet found.source e) (named-sheet list.now sheet.now found.source e)
