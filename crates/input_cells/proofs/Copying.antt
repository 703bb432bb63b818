-- Samples that a pass reads one by one.
use Rattle.std.proofs.Common.{◌≡◌, ℕ, zero, suc, ◌+◌, ◌*◌, ◌<◌, ◌≤◌, ◌||◌, Bool, cond, true, false}
use Rattle.std.proofs.Common.{true≢false, List, [], ◌∷◌, length, get_or, set, refl, sym, ap, ◌∙◌}
use Rattle.std.proofs.Common.{subst, arith, get_or-set_same, get_or-set_other, length-set}
use Rattle.std.proofs.lemmas.Bool.Decides.{nat_tests}
use Rattle.std.proofs.lemmas.List.Elements.{All-contains}
use Rattle.std.specs.Prelude.{replicate, Option, Some, None, IfSome, is_some, ℤ, pos}
use Rattle.std.specs.List.{All, Contains}
use mathlib.Core.Logic.{dite}
use native.Mathlib.Decide.{ℕ_discrete}
use Rattle.list_laws.proofs.Items.{All-left, All-right}
use Rattle.io_caps.specs.declared.device.DeviceParts.{DeviceParts}
use Rattle.map_entry.specs.Row.{channels_of}
use Rattle.packet_writer.specs.Heard.{HasFrames, HaveFrames, TickBlocks, channel_samples, sample_in}
use Rattle.packet_writer.specs.Packet.{Blocks, found_block}
use Rattle.input_rule.specs.declared.view.HeardSample.{HeardSample}
use Rattle.input_rule.specs.declared.view.Look.{Look}
use Rattle.input_rule.specs.declared.view.Shape.{Shape}
use Rattle.input_rule.specs.declared.view.View.{View}
use Rattle.input_rule.specs.Views.{HasSeen, listened}
use Rattle.input_rule.specs.Words.{HasTick, block_len}
use Rattle.input_rule.proofs.Blocks.{spells}
use Rattle.input_cells.specs.Agreement.{Agrees, AreHeard, AreSeen, AreSights, HasHeard, IsHeardOf}
use Rattle.input_cells.specs.Agreement.{any_sight, has_tick, is_sight, sees}
use Rattle.input_cells.specs.Faces.{Grows, GrowsAt, HasInput, HasShape, HasView, HearsAt}
use Rattle.input_cells.specs.Faces.{InputFace, IsReadOf, OnlyHears, SeatFace, face_of, heard_of}
use Rattle.input_cells.specs.Faces.{looks_of}
use Rattle.input_cells.specs.Shapes.{IsTableOf, shape_of}
use Rattle.input_cells.proofs.Agreeing.{range_at, shape_in}
use Rattle.input_cells.proofs.Growing.{all_hear_still, hears_grow, hears_more, hears_still}
use Rattle.input_cells.proofs.Growing.{hears_then, keeps_seen, last_among, on_all, on_among}
use Rattle.input_cells.proofs.Passes.{as_many, face_at}
use Rattle.input_cells.proofs.Starting.{as_inputs}

-- ---- one by one

-- a given number of samples were read, each at its place
pub record IsCopied (before now : SeatFace) (tick first step : ℕ) (old out : List ℤ)
    (count : ℕ) : Type 0 where
  pub hears : HearsAt before now
  pub heard : (n : ℕ) → n < count → HasHeard now.view tick (first + n * step) (get_or out n (pos 0))
  pub len : length out ≡ length old

pub copied_none : (a : SeatFace) (tick first step : ℕ) (out : List ℤ)
    → IsCopied a a tick first step out out 0
copied_none a tick first step out =
    record { hears = hears_still a; heard = λ n lt. absurd (omega arith); len = refl }

heard_on : (p q : SeatFace) (tick place : ℕ) (value : ℤ) → GrowsAt p q
    → HasHeard p.view tick place value → HasHeard q.view tick place value
heard_on p q tick place value g h = record {
  heard = h.heard;
  among = on_among p.view.heard q.view.heard h.heard g.heard h.among;
  input_is = h.input_is ∙ ap (λ (z : InputFace). z.shape.input) (sym g.face);
  tick_is = h.tick_is;
  place_is = h.place_is;
  value_is = h.value_is;
}

pub copied_more : (a b c : SeatFace) (tick first step : ℕ) (old out : List ℤ) (n place : ℕ)
    (value : ℤ) → IsCopied a b tick first step old out n
    → c ≡ record b { view = listened b.view tick place value } → place ≡ first + n * step
    → n < length old
    → IsCopied a c tick first step old (set out n value) (n + 1)
copied_more a b c tick first step old out n place value i is at lt =
    let more : HearsAt b c = subst (HearsAt b) (sym is) (hears_more b tick place value) in
    record {
      hears = hears_then a b c i.hears more;
      heard = λ k below. dite (ℕ_discrete k n)
          (λ one. subst (λ (z : ℕ × ℤ). HasHeard c.view tick z.0 z.1)
          (λ j. (
            (at ∙ ap (λ (m : ℕ). first + m * step) (sym one)) j,
            (sym (get_or-set_same out n value (pos 0) (let l = i.len in omega arith))
                ∙ ap (λ (m : ℕ). get_or (set out n value) m (pos 0)) (sym one)) j,
          )) new)
          (λ apart. subst (HasHeard c.view tick (first + k * step))
          (sym (get_or-set_other out n k value (pos 0) apart))
          (heard_on b c tick (first + k * step) (get_or out k (pos 0)) (hears_grow b c more)
          (i.heard k (omega arith))));
      len = length-set out n value ∙ i.len;
    }
  where
    new : HasHeard c.view tick place value
    new = subst (λ (z : SeatFace). HasHeard z.view tick place value) (sym is)
        (record {
          heard = record {
            input = b.view.shape.input;
            tick = tick;
            place = place;
            value = value;
          };
          among = last_among b.view.heard _;
          input_is = refl;
          tick_is = refl;
          place_is = refl;
          value_is = refl;
        })

-- what was read is the channel's
pub copied_channel : (v : View) (tick channels channel frame : ℕ) (block : Option (List ℤ))
    (out : List ℤ) (count : ℕ) → IsHeardOf v tick block
    → ((n : ℕ) → n < count
    → HasHeard v tick (frame * channels + channel + n * channels) (get_or out n (pos 0)))
    → length out ≡ count
    → out ≡ channel_samples block channels channel frame count
copied_channel v tick channels channel frame block out count is heard len =
    sym (spells (λ f. sample_in block (f * channels + channel)) out frame (λ n lt.
    let h = heard n (omega arith) in
    let place : (frame + n) * channels + channel ≡ frame * channels + channel + n * channels =
    grind arith in
    let read = All-contains (λ (x : HeardSample). x.input ≡ v.shape.input → x.tick ≡ tick
    → sample_in block x.place ≡ x.value) v.heard h.heard is.read h.among in
    ap (sample_in block) (place ∙ sym h.place_is) ∙ (read h.input_is h.tick_is ∙ h.value_is)))
    ∙ ap (λ (n : ℕ). channel_samples block channels channel frame n) len

-- a block that has the frames has room for them
pub no_room : (v : View) (tick channels frames : ℕ) (block : Option (List ℤ))
    → IsHeardOf v tick block → HasFrames block channels frames
    → frames * channels ≤ block_len v.shape
no_room v tick channels frames None is h = absurd (true≢false (sym is.there))
no_room v tick channels frames (Some samples) is h = let s = is.shape in omega arith

-- silence
pub silent : (channels channel frame n : ℕ)
    → channel_samples None channels channel frame n ≡ replicate n (pos 0)
silent channels channel frame zero = refl
silent channels channel frame (suc n) = λ k. pos 0 ∷ silent channels channel (frame + 1) n k

-- ---- all inputs

pub hears_set : (pass : List SeatFace) (i : ℕ) (d new : SeatFace) → HearsAt (get_or pass i d) new
    → OnlyHears pass (set pass i new)
hears_set [] i d new g = tt
hears_set (p ∷ ps) zero d new g = (g, all_hear_still ps)
hears_set (p ∷ ps) (suc i) d new g = (hears_still p, hears_set ps i d new g)

pub set_had : (P : View → Type 0) (pass : List SeatFace) (i : ℕ) (new : SeatFace)
    → HasView (set pass i new) i P → P new.view
set_had P [] i new h = absurd h
set_had P (p ∷ ps) zero new h = h
set_had P (p ∷ ps) (suc i) new h = set_had P ps i new h

-- what is known of more was known of less
less_view : (P Q : View → Type 0) → ((p q : SeatFace) → GrowsAt p q → Q q.view → P p.view)
    → (before after : List SeatFace) → Grows before after → (input : ℕ) → HasView after input Q
    → HasView before input P
less_view P Q less [] [] f input h = absurd h
less_view P Q less [] (q ∷ qs) f input h = absurd f
less_view P Q less (p ∷ ps) [] f input h = absurd f
less_view P Q less (p ∷ ps) (q ∷ qs) f zero h = less p q f.0 h
less_view P Q less (p ∷ ps) (q ∷ qs) f (suc input) h = less_view P Q less ps qs f.1 input h

less_heard : (tick : ℕ) (block : Option (List ℤ)) (p q : SeatFace) → GrowsAt p q
    → IsHeardOf q.view tick block → IsHeardOf p.view tick block
less_heard tick block p q g h =
    let shape : q.view.shape ≡ p.view.shape = ap (λ (z : InputFace). z.shape) g.face in
    record {
      there = h.there;
      shape = subst (λ (z : Shape). IfSome block (λ samples. length samples ≡ block_len z)) shape
          h.shape;
      read = on_all (λ (x : HeardSample). x.input ≡ p.view.shape.input → x.tick ≡ tick
          → sample_in block x.place ≡ x.value) p.view.heard q.view.heard g.heard
          (subst (λ (z : Shape). All (λ (x : HeardSample). x.input ≡ z.input → x.tick ≡ tick
          → sample_in block x.place ≡ x.value) q.view.heard) shape h.read);
    }

pub heard_before : (before after : List SeatFace) (tick : ℕ) (flags : List Bool)
    (blocks : TickBlocks) → Grows before after → AreHeard after tick flags blocks
    → AreHeard before tick flags blocks
heard_before before after tick flags blocks g h = record {
  silent = h.silent;
  heard = λ input yes_it. less_view (λ v. IsHeardOf v tick (blocks input))
      (λ v. IsHeardOf v tick (blocks input)) (λ p q g h. less_heard tick (blocks input) p q g h)
      before after g input (h.heard input yes_it);
}

-- ---- sights, as tests

sight_is : (v : View) (tick : ℕ) (ls : List Look) (l : Look) → Contains ls l
    → l.input ≡ v.shape.input → l.tick ≡ tick → l.present ≡ true
    → any_sight v.shape.input tick ls ≡ true
sight_is v tick [] l among i t p = absurd (let k = among.1 in omega arith)
sight_is v tick (x ∷ xs) l (zero, lt, is) i t p =
    let a = ap (λ (z : Look). z.input) is ∙ i in let b = ap (λ (z : Look). z.tick) is ∙ t in
    let c = ap (λ (z : Look). z.present) is ∙ p in
    here x (any_sight v.shape.input tick xs) a b c
  where
    here : (x : Look) (r : Bool) → x.input ≡ v.shape.input → x.tick ≡ tick → x.present ≡ true
        → (is_sight v.shape.input tick x || r) ≡ true
    here x r a b c = grind (arith, nat_tests)
sight_is v tick (x ∷ xs) l (suc k, lt, is) i t p =
    later (is_sight v.shape.input tick x) (sight_is v tick xs l (k, omega arith, is) i t p)
  where
    later : (b : Bool) → any_sight v.shape.input tick xs ≡ true
        → (b || any_sight v.shape.input tick xs) ≡ true
    later true e = refl
    later false e = e

-- the parts of a sight
sight_parts : (input tick : ℕ) (l : Look) → is_sight input tick l ≡ true
    → (l.input ≡ input) × (l.tick ≡ tick) × (l.present ≡ true)
sight_parts input tick l e =
    (grind (arith, nat_tests), grind (arith, nat_tests), grind (arith, nat_tests))

-- some look of these is a sight
abbrev Found : ℕ → ℕ → List Look → Type 0
Found input tick ls = (l : Look) × Contains ls l × (l.input ≡ input) × (l.tick ≡ tick)
    × (l.present ≡ true)

found_first : (input tick : ℕ) (l : Look) (ls : List Look)
    → (any_sight input tick ls ≡ true → Found input tick ls) → (b : Bool)
    → is_sight input tick l ≡ b → (b || any_sight input tick ls) ≡ true → Found input tick (l ∷ ls)
found_first input tick l ls more true is e = let p = sight_parts input tick l is in
    (l, (0, omega arith, refl), p.0, p.1, p.2)
found_first input tick l ls more false is e = let r = more e in let k = r.1.1 in
    (r.0, (suc r.1.0, omega arith, r.1.2), r.2, r.3, r.4)

any_found : (input tick : ℕ) (ls : List Look) → any_sight input tick ls ≡ true → Found input tick ls
any_found input tick [] e = absurd (true≢false (sym e))
any_found input tick (l ∷ ls) e =
    found_first input tick l ls (any_found input tick ls) (is_sight input tick l) refl e

pub seen_sight : (pass : List SeatFace) (input tick : ℕ) → HasView pass input (λ v. HasSeen v tick)
    → sees pass input tick ≡ true
seen_sight [] input tick h = absurd h
seen_sight (p ∷ ps) zero tick h =
    sight_is p.view tick p.view.looks h.look h.among h.input_is h.tick_is h.saw_it
seen_sight (p ∷ ps) (suc input) tick h = seen_sight ps input tick h

pub sight_seen : (pass : List SeatFace) (input tick : ℕ) → sees pass input tick ≡ true
    → HasView pass input (λ v. HasSeen v tick)
sight_seen [] input tick e = absurd (true≢false (sym e))
sight_seen (p ∷ ps) zero tick e = let r = any_found p.view.shape.input tick p.view.looks e in
    record { look = r.0; among = r.1; input_is = r.2; tick_is = r.3; saw_it = r.4 }
sight_seen (p ∷ ps) (suc input) tick e = sight_seen ps input tick e

pub tick_test : (table : List InputFace) (input tick : ℕ)
    → HasShape table input (λ s. HasTick s tick) → has_tick table input tick ≡ true
tick_test [] input tick h = absurd h
tick_test (t ∷ ts) zero tick h = let a = h.0 in let b = h.1 in grind (arith, nat_tests)
tick_test (t ∷ ts) (suc input) tick h = tick_test ts input tick h

pub test_tick : (table : List InputFace) (input tick : ℕ) → has_tick table input tick ≡ true
    → HasShape table input (λ s. HasTick s tick)
test_tick [] input tick e = absurd (true≢false (sym e))
test_tick (t ∷ ts) zero tick e = (grind (arith, nat_tests), grind (arith, nat_tests))
test_tick (t ∷ ts) (suc input) tick e = test_tick ts input tick e

pub sights_of : (table : List InputFace) (pass : List SeatFace) (tick : ℕ) (flags : List Bool)
    → AreSeen table pass tick flags → AreSights table pass tick flags
sights_of table pass tick flags h = λ input on. let s = h input on in
    (s.0, tick_test table input tick s.1, seen_sight pass input tick s.2)

pub seen_of : (table : List InputFace) (pass : List SeatFace) (tick : ℕ) (flags : List Bool)
    → AreSights table pass tick flags → AreSeen table pass tick flags
seen_of table pass tick flags h = λ input on. let s = h input on in
    (s.0, test_tick table input tick s.1, sight_seen pass input tick s.2)

pub sights_on : (table : List InputFace) (before after : List SeatFace) (tick : ℕ)
    (flags : List Bool) → Grows before after → AreSights table before tick flags
    → AreSights table after tick flags
sights_on table before after tick flags g h = λ input on. let s = h input on in (
  s.0,
  s.1,
  seen_sight after input tick
      (keeps_seen before after g input tick (sight_seen before input tick s.2)),
)

-- ---- blocks that agree with all that was seen

view_map : (P Q : View → Type 0) (pass : List SeatFace) (i : ℕ)
    → ((d : SeatFace) → i < length pass → P (get_or pass i d).view → Q (get_or pass i d).view)
    → HasView pass i P → HasView pass i Q
view_map P Q [] i f h = absurd h
view_map P Q (p ∷ ps) zero f h = f p (omega arith) h
view_map P Q (p ∷ ps) (suc i) f h = view_map P Q ps i (λ d lt. f d (omega arith)) h

view_held : (P : View → Type 0) (X : Type 0) (pass : List SeatFace) (i : ℕ)
    → ((d : SeatFace) → i < length pass → P (get_or pass i d).view → X) → HasView pass i P → X
view_held P X [] i f h = absurd h
view_held P X (p ∷ ps) zero f h = f p (omega arith) h
view_held P X (p ∷ ps) (suc i) f h = view_held P X ps i (λ d lt. f d (omega arith)) h

looks_held : (P : Look → Type 0) (pass : List SeatFace) (k : ℕ) (d : SeatFace) → k < length pass
    → All P (looks_of pass) → All P (get_or pass k d).view.looks
looks_held P [] k d lt h = absurd (omega arith)
looks_held P (p ∷ ps) zero d lt h = All-left P p.view.looks (looks_of ps) h
looks_held P (p ∷ ps) (suc k) d lt h =
    looks_held P ps k d (omega arith) (All-right P p.view.looks (looks_of ps) h)

heard_at : (P : HeardSample → Type 0) (pass : List SeatFace) (k : ℕ) (d : SeatFace)
    → k < length pass
    → All P (heard_of pass) → All P (get_or pass k d).view.heard
heard_at P [] k d lt h = absurd (omega arith)
heard_at P (p ∷ ps) zero d lt h = All-left P p.view.heard (heard_of ps) h
heard_at P (p ∷ ps) (suc k) d lt h =
    heard_at P ps k d (omega arith) (All-right P p.view.heard (heard_of ps) h)

shape_known : (d : DeviceParts) (from ticks : ℕ) (table : List InputFace) (pass : List SeatFace)
    → IsTableOf d from ticks table → IsReadOf table pass → (k : ℕ) (e : SeatFace) → k < length pass
    → (get_or pass k e).view.shape ≡ shape_of d from ticks k
shape_known d from ticks table pass of_it is k e lt =
    let few : k < length table = (let l = as_many table pass is in omega arith) in
    let n = as_inputs d from ticks table of_it in
    ap (λ (z : InputFace). z.shape) (face_at table pass k e (face_of e) is few)
    ∙ (shape_in table k (face_of e)
    ∙ (ap (λ (l : List Shape). get_or l k e.view.shape) of_it
    ∙ (range_at (shape_of d from ticks) 0 (length d.inputs + 1) k e.view.shape (omega arith)
    ∙ ap (shape_of d from ticks) (omega arith))))

pub agreeing : (d : DeviceParts) (from ticks : ℕ) (table : List InputFace) (pass : List SeatFace)
    (tick : ℕ) (flags : List Bool) (blocks : Blocks) → IsTableOf d from ticks table
    → IsReadOf table pass → AreSeen table pass tick flags
    → Agrees d (looks_of pass) (heard_of pass) blocks
    → AreHeard pass tick flags (found_block blocks flags tick)
agreeing d from ticks table pass tick flags blocks of_it is seen a = record {
  silent = λ input off. ap (λ (b : Bool). cond b (blocks input tick) None) off;
  heard = λ input on. view_map (λ v. HasSeen v tick)
      (λ v. IsHeardOf v tick (found_block blocks flags tick input)) pass input (λ e lt h.
      subst (IsHeardOf (get_or pass input e).view tick)
      (sym (ap (λ (b : Bool). cond b (blocks input tick) None) on))
      (one input e lt (seen input on).0 h)) (seen input on).2;
}
  where
    one : (input : ℕ) (e : SeatFace) → input < length pass → HasInput table input
        → HasSeen (get_or pass input e).view tick
        → IsHeardOf (get_or pass input e).view tick (blocks input tick)
    one input e lt there h =
        let v : View = (get_or pass input e).view in
        let shape : v.shape ≡ shape_of d from ticks input =
        shape_known d from ticks table pass of_it is input e lt in
        let number : v.shape.input ≡ input = ap (λ (z : Shape). z.input) shape in
        let saw = All-contains (λ (l : Look). l.present ≡ true
        → is_some (blocks l.input l.tick) ≡ true) v.looks h.look
        (looks_held (λ (l : Look). l.present ≡ true → is_some (blocks l.input l.tick) ≡ true) pass
        input e lt a.seen) h.among in
        let few : input < length d.inputs =
        (let n = as_inputs d from ticks table of_it in omega arith) in
        record {
          there = (λ k. is_some (blocks (sym (h.input_is ∙ number) k) (sym h.tick_is k)))
              ∙ saw h.saw_it;
          shape = subst (λ (n : ℕ). IfSome (blocks input tick) (λ samples. length samples ≡ n))
              (sym (ap (λ (z : Shape). block_len z) shape)) (a.shape input tick few);
          read = λ k x low its_input its_tick. let read =
              heard_at (λ (y : HeardSample). sample_in (blocks y.input y.tick) y.place
              ≡ y.value) pass
              input e lt a.read in
              (λ j. sample_in (blocks (sym (its_input ∙ number) j) (sym its_tick j))
              (get_or v.heard k x).place) ∙ read k x low;
        }

-- blocks that agree with what was seen have all frames of a tick
pub have_frames : (d : DeviceParts) (from ticks : ℕ) (table : List InputFace) (pass : List SeatFace)
    (tick : ℕ) (flags : List Bool) (b : TickBlocks) → IsTableOf d from ticks table
    → IsReadOf table pass → AreHeard pass tick flags b → HaveFrames d.inputs b d.rate.frames
have_frames d from ticks table pass tick flags b of_it is h input =
    by (get_or flags input false) refl
  where
    there : (block : Option (List ℤ)) (v : View) → IsHeardOf v tick block
        → block_len v.shape ≡ d.rate.frames * channels_of d.inputs input
        → HasFrames block (channels_of d.inputs input) d.rate.frames
    there None v heard len = tt
    there (Some samples) v heard len = let s = heard.shape in omega arith

    by : (f : Bool) → get_or flags input false ≡ f
        → HasFrames (b input) (channels_of d.inputs input) d.rate.frames
    by true on =
        view_held (λ v. IsHeardOf v tick (b input))
        (HasFrames (b input) (channels_of d.inputs input) d.rate.frames) pass input
        (λ e lt heard. there (b input) (get_or pass input e).view heard
        (ap (λ (z : Shape). block_len z)
        (shape_known d from ticks table pass of_it is input e lt))) (h.heard input on)
    by false off =
        subst (λ (o : Option (List ℤ)). HasFrames o (channels_of d.inputs input) d.rate.frames)
        (sym (h.silent input off)) tt
