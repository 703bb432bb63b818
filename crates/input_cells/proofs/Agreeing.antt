-- What is true of the feeders' words agrees with the blocks set.
use Rattle.std.proofs.Common.{◌≡◌, ⊎_elim, ℕ, zero, suc, ◌+◌, ◌*◌, ◌<◌, List, [], ◌∷◌, length, map}
use Rattle.std.proofs.Common.{get_or, refl, sym, ap, ◌∙◌, subst, arith, true, false}
use Rattle.std.proofs.lemmas.List.{length-map}
use Rattle.std.proofs.lemmas.List.Elements.{All-nil, All-append, AllZip-get_or}
use Rattle.std.specs.Prelude.{Option, Some, None, IfSome, is_some, ℤ, pos}
use Rattle.std.specs.List.{All, range_with_len}
use Rattle.io_caps.specs.declared.device.DeviceParts.{DeviceParts}
use Rattle.map_entry.specs.Row.{channels_of}
use Rattle.packet_writer.specs.Heard.{sample_in}
use Rattle.input_rule.specs.declared.view.Shape.{Shape}
use Rattle.input_rule.specs.declared.view.Look.{Look}
use Rattle.input_rule.specs.declared.view.HeardSample.{HeardSample}
use Rattle.input_rule.specs.Words.{block_at, block_len, sample_at, samples_at}
use Rattle.input_rule.proofs.Blocks.{block_cases, block_gone, block_there}
use Rattle.input_cells.specs.Agreement.{Agrees, AreTrue, AreTrueOf, blocks_set}
use Rattle.input_cells.specs.Faces.{InputFace, IsReadOf, SeatFace, face_of, heard_of, looks_of}
use Rattle.input_cells.specs.Feeding.{block_fed}
use Rattle.input_cells.specs.Shapes.{IsTableOf, shape_of}
use Rattle.input_cells.proofs.Passes.{as_many, face_at}

-- ---- lists

pub range_at : {B : Type 0} (f : ℕ → B) (from n k : ℕ) (d : B) → k < n
    → get_or (map f (range_with_len from n)) k d ≡ f (from + k)
range_at f from zero k d lt = absurd (omega arith)
range_at f from (suc n) zero d lt = ap f (omega arith)
range_at f from (suc n) (suc k) d lt = range_at f (from + 1) n k d (omega arith)
    ∙ ap f (omega arith)

pub range_long : {B : Type 0} (f : ℕ → B) (from n : ℕ) → length (map f (range_with_len from n)) ≡ n
range_long f from zero = refl
range_long f from (suc n) = ap suc (range_long f (from + 1) n)

pub shape_in : (table : List InputFace) (k : ℕ) (e : InputFace)
    → (get_or table k e).shape ≡ get_or (map (λ (t : InputFace). t.shape) table) k e.shape
shape_in [] k e = refl
shape_in (t ∷ ts) zero e = refl
shape_in (t ∷ ts) (suc k) e = shape_in ts k e

all_looks : (P : Look → Type 0) (pass : List SeatFace)
    → ((k : ℕ) (d : SeatFace) → k < length pass → All P (get_or pass k d).view.looks)
    → All P (looks_of pass)
all_looks P [] h = All-nil P
all_looks P (p ∷ ps) h =
    All-append P p.view.looks (looks_of ps) (h 0 p (omega arith))
    (all_looks P ps (λ k d lt. h (suc k) d (omega arith)))

all_heard : (P : HeardSample → Type 0) (pass : List SeatFace)
    → ((k : ℕ) (d : SeatFace) → k < length pass → All P (get_or pass k d).view.heard)
    → All P (heard_of pass)
all_heard P [] h = All-nil P
all_heard P (p ∷ ps) h =
    All-append P p.view.heard (heard_of ps) (h 0 p (omega arith))
    (all_heard P ps (λ k d lt. h (suc k) d (omega arith)))

set_at : (feeds : List SeatFace) (k tick : ℕ) (d : SeatFace) → k < length feeds
    → blocks_set feeds k tick ≡ block_fed (get_or feeds k d) tick
set_at [] k tick d lt = absurd (omega arith)
set_at (f ∷ fs) zero tick d lt = refl
set_at (f ∷ fs) (suc k) tick d lt = set_at fs k tick d (omega arith)

-- ---- one input

sample_in_block : (shape : Shape) (words : List ℕ) (tick place : ℕ) (block : Option (List ℤ))
    → block ≡ Some (samples_at shape words tick) → place < block_len shape
    → sample_in block place ≡ sample_at shape words tick place
sample_in_block shape words tick place block is lt =
    ap (λ (b : Option (List ℤ)). sample_in b place) is
    ∙ (range_at (sample_at shape words tick) 0 (block_len shape) place (pos 0) lt
    ∙ ap (sample_at shape words tick) (omega arith))

block_shape : (shape : Shape) (words : List ℕ) (tick : ℕ)
    → IfSome (block_at shape words tick) (λ samples. length samples ≡ block_len shape)
block_shape shape words tick = ⊎_elim
    (λ here. subst (λ (b : Option (List ℤ)). IfSome b (λ samples. length samples ≡ block_len shape))
    (sym here.1) (range_long (sample_at shape words tick) 0 (block_len shape)))
    (λ gone. subst (λ (b : Option (List ℤ)). IfSome b (λ samples. length samples ≡ block_len shape))
    (sym gone.1) tt) (block_cases shape words tick)

-- ---- all inputs

module _ (d : DeviceParts) (from ticks : ℕ) (table : List InputFace) (feeds pass : List SeatFace)
    (of_it : IsTableOf d from ticks table) (f : map face_of feeds ≡ table) (p : IsReadOf table pass)
    (h : AreTrueOf feeds pass) where
  as_inputs : length table ≡ length d.inputs + 1
  as_inputs = sym (length-map table (λ (t : InputFace). t.shape))
      ∙ (ap (λ (l : List Shape). length l) of_it
      ∙ range_long (shape_of d from ticks) 0 (length d.inputs + 1))

  shape_is : (k : ℕ) (e : SeatFace) → k < length feeds
      → (get_or feeds k e).view.shape ≡ shape_of d from ticks k
  shape_is k e lt =
      let few : k < length table = (let l = as_many table feeds f in omega arith) in
      let n = as_inputs in
      ap (λ (z : InputFace). z.shape) (face_at table feeds k e (face_of e) f few)
      ∙ (shape_in table k (face_of e)
      ∙ (ap (λ (l : List Shape). get_or l k e.view.shape) of_it
      ∙ (range_at (shape_of d from ticks) 0 (length d.inputs + 1) k e.view.shape (omega arith)
      ∙ ap (shape_of d from ticks) (omega arith))))

  true_at : (k : ℕ) (e : SeatFace) → k < length pass
      → AreTrue (get_or feeds k e).view (get_or pass k e).view
  true_at k e lt = AllZip-get_or (λ a b. AreTrue a.view b.view) feeds pass k e e h
      (let l = as_many table feeds f in let m = as_many table pass p in omega arith)

  feeds_long : (k : ℕ) → k < length pass → k < length feeds
  feeds_long k lt = let l = as_many table feeds f in let m = as_many table pass p in omega arith

  -- the blocks set at the input of a look or a sample
  here : (k input tick : ℕ) (e : SeatFace) → k < length feeds
      → input ≡ (get_or feeds k e).view.shape.input
      → blocks_set feeds input tick ≡ block_fed (get_or feeds k e) tick
  here k input tick e lt is =
      ap (λ (i : ℕ). blocks_set feeds i tick) (is ∙ ap (λ (z : Shape). z.input) (shape_is k e lt))
      ∙ set_at feeds k tick e lt

  pub agrees : Agrees d (looks_of pass) (heard_of pass) (blocks_set feeds)
  agrees = record {
    seen = all_looks (λ l. l.present ≡ true → is_some (blocks_set feeds l.input l.tick) ≡ true) pass
        (λ k e lt i g low there.
        let long = feeds_long k lt in let w = (true_at k e lt).looks i g low in
        let l : Look = get_or (get_or pass k e).view.looks i g in
        ap (λ (b : Option (List ℤ)). is_some b) (here k l.input l.tick e long w.input
        ∙ block_there (get_or feeds k e).view.shape (get_or feeds k e).view.words l.tick
        w.inside (w.seen there)));
    missed = all_looks (λ l. l.present ≡ false → l.tick < l.closed
        → blocks_set feeds l.input l.tick ≡ None) pass (λ k e lt i g low gone late.
        let long = feeds_long k lt in let w = (true_at k e lt).looks i g low in
        let l : Look = get_or (get_or pass k e).view.looks i g in
        here k l.input l.tick e long w.input
        ∙ block_gone (get_or feeds k e).view.shape (get_or feeds k e).view.words l.tick
        (w.missed gone late));
    read = all_heard (λ x. sample_in (blocks_set feeds x.input x.tick) x.place ≡ x.value) pass
        (λ k e lt i g low.
        let long = feeds_long k lt in let w = (true_at k e lt).heard i g low in
        let x : HeardSample = get_or (get_or pass k e).view.heard i g in
        sample_in_block (get_or feeds k e).view.shape (get_or feeds k e).view.words x.tick x.place
        (blocks_set feeds x.input x.tick)
        (here k x.input x.tick e long w.input
        ∙ block_there (get_or feeds k e).view.shape (get_or feeds k e).view.words x.tick
        w.inside w.there) w.below ∙ w.value);
    shape = shaped feeds refl;
  }
    where
      shaped : (fs : List SeatFace) → fs ≡ feeds → (input tick : ℕ) → input < length d.inputs
          → IfSome (blocks_set fs input tick)
          (λ samples. length samples ≡ d.rate.frames * channels_of d.inputs input)
      shaped [] same input tick lt = tt
      shaped (x ∷ xs) same input tick lt =
          let long : input < length feeds = (let l = as_many table feeds f in let n = as_inputs in
          omega arith) in
          let is : block_len (get_or feeds input x).view.shape ≡ d.rate.frames * channels_of
          d.inputs input = ap (λ (z : Shape). block_len z) (shape_is input x long) in
          subst (λ (z : Option (List ℤ) × ℕ). IfSome z.0 (λ samples. length samples ≡ z.1))
          (λ k. (
            (sym (set_at feeds input tick x long)
                ∙ ap (λ (l : List SeatFace). blocks_set l input tick) (sym same)) k,
            is k,
          ))
          (block_shape (get_or feeds input x).view.shape (get_or feeds input x).view.words tick)

pub all_agree : (d : DeviceParts) (from ticks : ℕ) (table : List InputFace) (feeds : List SeatFace)
    (passes : List (List SeatFace)) → IsTableOf d from ticks table → map face_of feeds ≡ table
    → All (IsReadOf table) passes → All (AreTrueOf feeds) passes
    → All (λ r. Agrees d (looks_of r) (heard_of r) (blocks_set feeds)) passes
all_agree d from ticks table feeds passes of_it f r h =
    λ k e lt. agrees d from ticks table feeds (get_or passes k e) of_it f (r k e lt) (h k e lt)
