-- Words only come to show more: what the feeder may store, and what stays of looks and samples.
use Rattle.std.proofs.Common.{◌≡◌, ◌≢◌, ℕ, ◌+◌, ◌-◌, ◌*◌, ◌^◌, ◌<◌, ◌≤◌, List, length}
use Rattle.std.proofs.Common.{get_or, set, refl, sym, ap, ◌∙◌, subst, arith, length-set}
use Rattle.std.proofs.Common.{get_or-set_same, get_or-set_other}
use Rattle.std.proofs.lemmas.Nat.{mul-add-lt, same_from_place}
use mathlib.Core.Logic.{dite}
use native.Mathlib.Decide.{ℕ_discrete}
use Rattle.input_rule.specs.declared.view.Shape.{Shape}
use Rattle.input_rule.specs.declared.view.Look.{Look}
use Rattle.input_rule.specs.declared.view.HeardSample.{HeardSample}
use Rattle.input_rule.specs.Words.{AreLater, AreWords, HasTick, IsAbsent, block_len, closing}
use Rattle.input_rule.specs.Words.{presence, sample_of, sample_word, word_in_block, words_len}
use Rattle.input_rule.specs.Rule.{IsLook, IsHeard}
use Rattle.input_rule.proofs.Planes.{word_below}

pub later_self : (shape : Shape) (words : List ℕ) → AreLater shape words words
later_self shape words = record {
  rises = omega arith;
  stays = λ tick inside there. there;
  same = λ tick place inside below there. refl;
  settled = λ tick inside late gone. gone;
}

pub later_then : (shape : Shape) (a b c : List ℕ) → AreLater shape a b → AreLater shape b c
    → AreLater shape a c
later_then shape a b c f g = record {
  rises = let x = f.rises in let y = g.rises in omega arith;
  stays = λ tick inside there. g.stays tick inside (f.stays tick inside there);
  same = λ tick place inside below there. g.same tick place inside below (f.stays tick inside there)
      ∙ f.same tick place inside below there;
  settled = λ tick inside late gone. g.settled tick inside (let x = f.rises in omega arith)
      (f.settled tick inside late gone);
}

pub look_stays : (shape : Shape) (before after : List ℕ) → AreLater shape before after → (l : Look)
    → IsLook shape before l → IsLook shape after l
look_stays shape before after f l o = record {
  input = o.input;
  inside = o.inside;
  seen = λ yes. f.stays l.tick o.inside (o.seen yes);
  missed = λ not early. f.settled l.tick o.inside (let c = o.closed in omega arith)
      (o.missed not early);
  closed = let c = o.closed in let r = f.rises in omega arith;
}

pub heard_stays : (shape : Shape) (before after : List ℕ) → AreLater shape before after
    → (h : HeardSample) → IsHeard shape before h
    → IsHeard shape after h
heard_stays shape before after f h o = record {
  input = o.input;
  inside = o.inside;
  below = o.below;
  there = f.stays h.tick o.inside o.there;
  value = f.same h.tick h.place o.inside o.below o.there ∙ o.value;
}

-- what a store of the feeder keeps
pub record MayStore (shape : Shape) (words : List ℕ) (word x : ℕ) : Type 0 where
  pub shown : AreWords shape (set words word x)
  pub later : AreLater shape words (set words word x)

-- a presence word lies before the samples, and after the closing number
presence_low : (shape : Shape) (tick : ℕ) → HasTick shape tick → presence shape tick ≤ shape.ticks
presence_low shape tick inside = let a = inside.0 in let b = inside.1 in omega arith

sample_high : (shape : Shape) (tick place : ℕ) → shape.ticks < sample_word shape tick place
sample_high shape tick place = let q : ℕ = (tick - shape.from) * block_len shape in
    let w : ℕ = word_in_block shape place in omega arith

pub sample_inside : (shape : Shape) (tick place : ℕ) → HasTick shape tick → place < block_len shape
    → sample_word shape tick place < words_len shape
sample_inside shape tick place inside below =
    let a = inside.0 in let b = inside.1 in
    let row : tick - shape.from < shape.ticks = omega arith in
    let w : ℕ = word_in_block shape place in
    let m : (tick - shape.from) * block_len shape + w < block_len shape * shape.ticks =
    mul-add-lt (tick - shape.from) (block_len shape) w shape.ticks row (word_below shape place below)
    in
    let q : ℕ = (tick - shape.from) * block_len shape in
    let n : ℕ = shape.ticks * block_len shape in omega arith

pub presence_inside : (shape : Shape) (tick : ℕ) → HasTick shape tick
    → presence shape tick < words_len shape
presence_inside shape tick inside = let l = presence_low shape tick inside in
    let n : ℕ = shape.ticks * block_len shape in omega arith

-- two ticks of one presence word are one
same_presence : (shape : Shape) (s t : ℕ) → HasTick shape s → HasTick shape t
    → presence shape s ≡ presence shape t → s ≡ t
same_presence shape s t a b e = let x = a.0 in let y = b.0 in omega arith

-- two samples of one word are one
same_sample : (shape : Shape) (s p t q : ℕ) → HasTick shape s → p < block_len shape
    → HasTick shape t → q < block_len shape
    → sample_word shape s p ≡ sample_word shape t q → s ≡ t
same_sample shape s p t q a l b m e =
    let v : ℕ = word_in_block shape p in let w : ℕ = word_in_block shape q in
    let at : (s - shape.from) * block_len shape + v ≡ (t - shape.from) * block_len shape + w =
    (let x : ℕ = (s - shape.from) * block_len shape in
    let y : ℕ = (t - shape.from) * block_len shape in omega arith) in
    let rows = (same_from_place (s - shape.from) v (t - shape.from) w (block_len shape)
    (word_below shape p l) (word_below shape q m) at).0 in
    let x = a.0 in let y = b.0 in omega arith

-- a sample of a block that is not there
pub may_store_sample : (shape : Shape) (words : List ℕ) (tick place x : ℕ) → AreWords shape words
    → HasTick shape tick → place < block_len shape
    → x < 2 ^ 32 → IsAbsent shape words tick
    → MayStore shape words (sample_word shape tick place) x
may_store_sample shape words tick place x shown inside below fits gone =
    let p : ℕ = sample_word shape tick place in
    let high : shape.ticks < p = sample_high shape tick place in
    let room : p < length words =
    subst (λ (n : ℕ). p < n) (sym shown.len) (sample_inside shape tick place inside below) in
    let low : (k : ℕ) → k ≤ shape.ticks → get_or (set words p x) k 0 ≡ get_or words k 0 =
    λ k le. get_or-set_other words p k x 0 (λ bad. omega arith) in
    let first : closing (set words p x) ≡ closing words = low 0 (omega arith) in
    let bits : (t : ℕ) → HasTick shape t
    → get_or (set words p x) (presence shape t) 0 ≡ get_or words (presence shape t) 0 =
    λ t i. low (presence shape t) (presence_low shape t i) in record {
      shown = record {
        len = length-set words p x ∙ shown.len;
        begun = let b = shown.begun in omega arith;
        presence = λ t i. let e = bits t i in let b = shown.presence t i in omega arith;
        spelt = λ k le. dite (ℕ_discrete k p) (λ same. let e : get_or (set words p x) k 0 ≡ x =
            ap (λ (n : ℕ). get_or (set words p x) n 0) same
            ∙ get_or-set_same words p x 0 room in omega arith)
            (λ apart. let e = get_or-set_other words p k x 0 apart in let s = shown.spelt k le in
            omega arith);
      };
      later = record {
        rises = omega arith;
        stays = λ t i there. bits t i ∙ there;
        same = λ t q i b there.
            ap sample_of (get_or-set_other words p (sample_word shape t q) x 0 (λ e.
            let one : t ≡ tick = same_sample shape t q tick place i b inside below e in
            let bad : 1 ≡ 0 =
            sym there ∙ (ap (λ (n : ℕ). get_or words (presence shape n) 0) one ∙ gone) in
            absurd (omega arith)));
        settled = λ t i late away. bits t i ∙ away;
      };
    }

-- the presence of a tick that is not closed
pub may_store_presence : (shape : Shape) (words : List ℕ) (tick : ℕ) → AreWords shape words
    → HasTick shape tick → closing words ≤ tick
    → MayStore shape words (presence shape tick) 1
may_store_presence shape words tick shown inside still_open =
    let p : ℕ = presence shape tick in
    let low : p ≤ shape.ticks = presence_low shape tick inside in
    let room : p < length words =
    subst (λ (n : ℕ). p < n) (sym shown.len) (presence_inside shape tick inside) in
    let here : get_or (set words p 1) p 0 ≡ 1 = get_or-set_same words p 1 0 room in
    let other : (k : ℕ) → k ≢ p → get_or (set words p 1) k 0 ≡ get_or words k 0 =
    λ k apart. get_or-set_other words p k 1 0 apart in
    let first : closing (set words p 1) ≡ closing words = other 0 (λ bad. omega arith) in
    let at : (t : ℕ) → t ≡ tick → get_or (set words p 1) (presence shape t) 0 ≡ 1 =
    λ t one. ap (λ (n : ℕ). get_or (set words p 1) (presence shape n) 0) one ∙ here in
    let away : (t : ℕ) → HasTick shape t → t ≢ tick
    → get_or (set words p 1) (presence shape t) 0 ≡ get_or words (presence shape t) 0 =
    λ t i apart. other (presence shape t) (λ bad. apart (same_presence shape t tick i inside bad))
    in record {
      shown = record {
        len = length-set words p 1 ∙ shown.len;
        begun = let b = shown.begun in omega arith;
        presence = λ t i. dite (ℕ_discrete t tick) (λ one. let e = at t one in omega arith)
            (λ apart. let e = away t i apart in let b = shown.presence t i in omega arith);
        spelt = λ k le. let e = other k (λ bad. omega arith) in let s = shown.spelt k le in
            omega arith;
      };
      later = record {
        rises = omega arith;
        stays = λ t i there. dite (ℕ_discrete t tick) (λ one. at t one) (λ apart. away t i apart
            ∙ there);
        same = λ t q i b there.
            ap sample_of (other (sample_word shape t q) (λ bad. let h = sample_high shape t q in
            omega arith));
        settled = λ t i late gone. away t i (λ one. omega arith) ∙ gone;
      };
    }

-- a closing number that is no lower
pub may_store_closing : (shape : Shape) (words : List ℕ) (upto : ℕ) → AreWords shape words
    → closing words ≤ upto → MayStore shape words 0 upto
may_store_closing shape words upto shown rises =
    let room : 0 < length words =
    subst (λ (n : ℕ). 0 < n) (sym shown.len) (let n : ℕ = shape.ticks * block_len shape in
    omega arith) in
    let here : get_or (set words 0 upto) 0 0 ≡ upto = get_or-set_same words 0 upto 0 room in
    let other : (k : ℕ) → k ≢ 0 → get_or (set words 0 upto) k 0 ≡ get_or words k 0 =
    λ k apart. get_or-set_other words 0 k upto 0 apart in
    let bits : (t : ℕ)
    → get_or (set words 0 upto) (presence shape t) 0 ≡ get_or words (presence shape t) 0 =
    λ t. other (presence shape t) (λ bad. omega arith) in record {
      shown = record {
        len = length-set words 0 upto ∙ shown.len;
        begun = let b = shown.begun in omega arith;
        presence = λ t i. let e = bits t in let b = shown.presence t i in omega arith;
        spelt = λ k le. let e = other k (λ bad. omega arith) in let s = shown.spelt k le in
            omega arith;
      };
      later = record {
        rises = omega arith;
        stays = λ t i there. bits t ∙ there;
        same = λ t q i b there.
            ap sample_of (other (sample_word shape t q) (λ bad. let h = sample_high shape t q in
            omega arith));
        settled = λ t i late gone. bits t ∙ gone;
      };
    }
