-- What the feeder's stores make of the blocks that are seen.
use Rattle.std.proofs.Common.{◌≡◌, ℕ, ◌+◌, ◌-◌, ◌*◌, ◌<◌, ◌≤◌, ◌^◌, List, length, map, get_or, set}
use Rattle.std.proofs.Common.{true≢false, ⊎_elim, refl, sym, ap, ◌∙◌, subst, arith, get_or-set_same}
use Rattle.std.proofs.Common.{get_or-set_other}
use Rattle.std.specs.Prelude.{ℤ, pos, Some}
use Rattle.std.specs.List.{range_with_len}
use mathlib.Core.Logic.{dite}
use native.Mathlib.Decide.{ℕ_discrete}
use Rattle.atomic_table.specs.Seated.{TableId}
use Rattle.input_rule.specs.declared.view.Shape.{Shape}
use Rattle.input_rule.specs.declared.view.View.{View}
use Rattle.input_rule.specs.Words.{AreLater, AreWords, HasTick, IsAbsent, IsPresent, block_at}
use Rattle.input_rule.specs.Words.{block_len, closing, place_in_block, presence, sample_at}
use Rattle.input_rule.specs.Words.{sample_of, sample_word, samples_at, word_in_block, words_len}
use Rattle.input_rule.proofs.Planes.{place_back}
use Rattle.input_rule.specs.Views.{wrote}
use Rattle.input_rule.proofs.Later.{MayStore, later_self, later_then, may_store_closing}
use Rattle.input_rule.proofs.Later.{may_store_presence, may_store_sample}
use Rattle.input_rule.proofs.Blocks.{block_cases, block_stays, block_there, present_is, spells}
use Rattle.input_cells.specs.Faces.{InputFace, SeatFace, face_of}
use Rattle.input_cells.specs.Feeding.{Closes, IsFeeding, Sets, Spells, Stores, StoresSample}

-- two places of one word are one
same_place : (shape : Shape) (tick p q : ℕ) → p < block_len shape → q < block_len shape
    → sample_word shape tick p ≡ sample_word shape tick q → p ≡ q
same_place shape tick p q a b e =
    let v : ℕ = word_in_block shape p in let w : ℕ = word_in_block shape q in
    let row : ℕ = (tick - shape.from) * block_len shape in
    let same : v ≡ w = omega (arith, e) in
    sym (place_back shape p a) ∙ (ap (place_in_block shape) same ∙ place_back shape q b)

-- one sample more
pub spell_more : (a b c : SeatFace) (tick : ℕ) (block : List ℤ) (n : ℕ) → Spells a b tick block n
    → StoresSample b c tick n (get_or block n (pos 0)) → n < block_len a.view.shape
    → Spells a c tick block (n + 1)
spell_more a b c tick block n s t inside =
    let shape : b.view.shape ≡ a.view.shape = ap (λ (z : SeatFace). z.view.shape) s.on.only in
    let wb : List ℕ = b.view.words in
    let p : ℕ = sample_word b.view.shape tick n in
    let after : List ℕ = set wb p t.word in
    let words_c : c.view.words ≡ after = ap (λ (z : SeatFace). z.view.words) t.stored.only in
    let words_b : b.view.words ≡ s.on.words = ap (λ (z : SeatFace). z.view.words) s.on.only in
    let here : sample_word a.view.shape tick n ≡ p =
    ap (λ (z : Shape). sample_word z tick n) (sym shape) in
    record {
      on = record {
        words = after;
        only = t.stored.only
            ∙ ap (λ (z : SeatFace). record z { view = record z.view { words = after } }) s.on.only;
        later = later_then a.view.shape a.view.words wb after
            (subst (AreLater a.view.shape a.view.words) (sym words_b) s.on.later)
            (subst (λ (z : Shape). AreLater z wb after) shape t.stored.later);
      };
      low = λ word le. ap (λ (l : List ℕ). get_or l word 0) words_c
          ∙ (get_or-set_other wb p word t.word 0 (λ bad. let e =
          ap (λ (z : Shape). z.ticks) shape in
          let q : ℕ = (tick - b.view.shape.from) * block_len b.view.shape in
          let w : ℕ = word_in_block b.view.shape n in omega arith)
          ∙ s.low word le);
      spelt = λ place lt. dite (ℕ_discrete place n)
          (λ one. ap sample_of ((λ k. get_or (words_c k) (sample_word a.view.shape tick (one k)) 0)
          ∙ (ap (λ (i : ℕ). get_or after i 0) here
          ∙ get_or-set_same wb p t.word 0 t.stored.room))
          ∙ (t.spells ∙ ap (λ (i : ℕ). get_or block i (pos 0)) (sym one)))
          (λ apart. ap sample_of
          (ap (λ (l : List ℕ). get_or l (sample_word a.view.shape tick place) 0) words_c
          ∙ get_or-set_other wb p (sample_word a.view.shape tick place) t.word 0
          (λ bad. apart (same_place a.view.shape tick place n (omega arith) inside
          (bad ∙ sym here)))) ∙ s.spelt place (omega arith));
    }

-- none yet
pub spell_none : (a : SeatFace) (tick : ℕ) (block : List ℤ) → Spells a a tick block 0
spell_none a tick block = record {
  on = record { words = a.view.words; only = refl; later = later_self a.view.shape a.view.words };
  low = λ word le. refl;
  spelt = λ place lt. absurd (omega arith);
}

-- no block is there while its samples are stored
pub still_absent : (a b : SeatFace) (tick : ℕ) (block : List ℤ) (n : ℕ) → Spells a b tick block n
    → HasTick a.view.shape tick → IsAbsent a.view.shape a.view.words tick
    → IsAbsent b.view.shape b.view.words tick
still_absent a b tick block n s inside gone =
    let i = inside.0 in let j = inside.1 in
    ap (λ (z : Shape). get_or b.view.words (presence z tick) 0)
    (ap (λ (z : SeatFace). z.view.shape) s.on.only)
    ∙ (s.low (presence a.view.shape tick) (omega arith) ∙ gone)

-- ---- one store, as a call finds it: a seat that is the pass's, of the table of an input

module _ (pass : SeatFace) (one : InputFace) (id : TableId) (v : View)
    (same : record { id = id; view = v } ≡ pass) (of_one : face_of pass ≡ one) where
  pub seat_shape : one.shape ≡ v.shape
  seat_shape = ap (λ (z : InputFace). z.shape) (sym of_one)
      ∙ ap (λ (z : SeatFace). z.view.shape) (sym same)

  pub seat_id : id ≡ one.id
  seat_id = ap (λ (z : SeatFace). z.id) same ∙ ap (λ (z : InputFace). z.id) of_one

  pub pass_shape : one.shape ≡ pass.view.shape
  pass_shape = ap (λ (z : InputFace). z.shape) (sym of_one)

  pub presence_may : (tick word : ℕ) → AreWords v.shape v.words → HasTick one.shape tick
      → closing pass.view.words ≤ tick → word ≡ presence one.shape tick
      → MayStore v.shape v.words word 1
  presence_may tick word shown inside still_open is =
      subst (λ (i : ℕ). MayStore v.shape v.words i 1)
      (sym (is ∙ ap (λ (z : Shape). presence z tick) seat_shape))
      (may_store_presence v.shape v.words tick shown
      (subst (λ (z : Shape). HasTick z tick) seat_shape inside)
      (subst (λ (z : SeatFace). closing z.view.words ≤ tick) (sym same) still_open))

  pub sample_may : (tick place word x : ℕ) → AreWords v.shape v.words → HasTick one.shape tick
      → place < block_len one.shape → IsAbsent pass.view.shape pass.view.words tick → x < 2 ^ 32
      → word ≡ sample_word one.shape tick place
      → MayStore v.shape v.words word x
  sample_may tick place word x shown inside below gone small is =
      subst (λ (i : ℕ). MayStore v.shape v.words i x)
      (sym (is ∙ ap (λ (z : Shape). sample_word z tick place) seat_shape))
      (may_store_sample v.shape v.words tick place x shown
      (subst (λ (z : Shape). HasTick z tick) seat_shape inside)
      (subst (λ (z : Shape). place < block_len z) seat_shape below) small
      (subst (λ (z : SeatFace). IsAbsent z.view.shape z.view.words tick) (sym same) gone))

  pub closing_may : (upto : ℕ) → AreWords v.shape v.words → closing pass.view.words ≤ upto
      → MayStore v.shape v.words 0 upto
  closing_may upto shown rises =
      may_store_closing v.shape v.words upto shown
      (subst (λ (z : SeatFace). closing z.view.words ≤ upto) (sym same) rises)

  -- what the pass is afterwards
  pub stored : (id' : TableId) (v' : View) (place at word : ℕ) → id' ≡ id → v' ≡ wrote v at word
      → at < length v.words → MayStore v.shape v.words at word → at ≡ place
      → Stores pass (record { id = id'; view = v' }) place word
  stored id' v' place at word is wrote_is room may here =
      subst (λ (x : SeatFace × ℕ). Stores x.0 (record { id = id'; view = v' }) x.1 word)
      (λ k. (same k, here k)) (record {
        only = λ k. record { id = is k; view = wrote_is k };
        later = may.later;
        room = room;
      })

  pub room_for : (word : ℕ) → AreWords v.shape v.words → word < words_len one.shape
      → word < length v.words
  room_for word shown lt = let l = shown.len in
      let s = ap (λ (z : Shape). words_len z) seat_shape in omega arith

-- the seat feeds on
pub feeds_on : (v v' : View) (place word : ℕ) → IsFeeding v → v' ≡ wrote v place word
    → MayStore v.shape v.words place word → IsFeeding v'
feeds_on v v' place word is same may =
    subst IsFeeding (sym same) (record { live = is.live; feeds = is.feeds; words = may.shown })

-- ---- what the calls of a feeder's pass leave

-- where no block came at a tick, its block is what it was
same_block : (shape : Shape) (before after : List ℕ) (tick : ℕ) → AreLater shape before after
    → (HasTick shape tick
    → get_or after (presence shape tick) 0 ≡ get_or before (presence shape tick) 0)
    → block_at shape after tick ≡ block_at shape before tick
same_block shape before after tick later same =
    ⊎_elim (λ here. block_stays shape before after later tick here.0.0 here.0.1)
    (λ gone. ⊎_elim
    (λ here. absurd
    (true≢false (sym (present_is shape before tick here.0.0 (sym (same here.0.0) ∙ here.0.1))
    ∙ gone.0))) (λ still. still.1 ∙ sym gone.1) (block_cases shape after tick))
    (block_cases shape before tick)

-- the block is set once its samples and its presence are stored
pub set_done : (a b c : SeatFace) (tick : ℕ) (block : List ℤ) → Spells a b tick block (length block)
    → Stores b c (presence b.view.shape tick) 1 → HasTick a.view.shape tick
    → length block ≡ block_len a.view.shape → Sets a c tick block
set_done a b c tick block s t inside len =
    let z : Shape = a.view.shape in
    let shape : b.view.shape ≡ z = ap (λ (z : SeatFace). z.view.shape) s.on.only in
    let shape_c : c.view.shape ≡ z = ap (λ (z : SeatFace). z.view.shape) t.only ∙ shape in
    let wa : List ℕ = a.view.words in let wb : List ℕ = b.view.words in
    let p : ℕ = presence b.view.shape tick in
    let after : List ℕ = set wb p 1 in
    let words_c : c.view.words ≡ after = ap (λ (z : SeatFace). z.view.words) t.only in
    let words_b : b.view.words ≡ s.on.words = ap (λ (z : SeatFace). z.view.words) s.on.only in
    let place : presence z tick ≡ p = ap (λ (x : Shape). presence x tick) (sym shape) in
    let low : p ≤ z.ticks = (let i = inside.0 in let j = inside.1 in omega arith) in
    let later_b : AreLater z wa wb = subst (AreLater z wa) (sym words_b) s.on.later in
    let later : AreLater z wa after =
    later_then z wa wb after later_b (subst (λ (x : Shape). AreLater x wb after) shape t.later)
    in
    let there : IsPresent z after tick = ap (λ (i : ℕ). get_or after i 0) place
    ∙ get_or-set_same wb p 1 0 t.room in
    let samples : samples_at z after tick ≡ block =
    ap (λ (n : ℕ). map (sample_at z after tick) (range_with_len 0 n)) (sym len)
    ∙ spells (sample_at z after tick) block 0
    (λ q lt. ap (λ (i : ℕ). sample_at z after tick i) (omega arith)
    ∙ (ap sample_of
    (get_or-set_other wb p (sample_word z tick q) 1 0 (λ bad. let n : ℕ =
    (tick - z.from) * block_len z in let w : ℕ = word_in_block z q in omega arith))
    ∙ s.spelt q lt)) in
    record {
      on = record {
        words = after;
        only = t.only ∙ ap (λ (z : SeatFace). record z { view = record z.view { words = after } })
            s.on.only;
        later = later;
      };
      here = (λ k. block_at (shape_c k) (words_c k) tick)
          ∙ (block_there z after tick inside there ∙ ap (λ (l : List ℤ). Some l) samples);
      others = λ u apart. (λ k. block_at (shape_c k) (words_c k) u)
          ∙ same_block z wa after u later (λ i.
          get_or-set_other wb p (presence z u) 1 0
          (λ bad. apart (let x = i.0 in let y = inside.0 in omega arith))
          ∙ s.low (presence z u) (let x = i.0 in let y = i.1 in omega arith));
      closing = ap (λ (l : List ℕ). get_or l 0 0) words_c
          ∙ (get_or-set_other wb p 0 1 0 (λ bad. omega arith) ∙ s.low 0 (omega arith));
    }

-- the closing number was raised
pub close_done : (a c : SeatFace) (upto : ℕ) → Stores a c 0 upto → closing a.view.words ≤ upto
    → Closes a c upto
close_done a c upto t rises =
    let z : Shape = a.view.shape in let wa : List ℕ = a.view.words in
    let after : List ℕ = set wa 0 upto in
    let shape_c : c.view.shape ≡ z = ap (λ (z : SeatFace). z.view.shape) t.only in
    let words_c : c.view.words ≡ after = ap (λ (z : SeatFace). z.view.words) t.only in
    record {
      on = record { words = after; only = t.only; later = t.later };
      closing = ap (λ (l : List ℕ). get_or l 0 0) words_c
          ∙ (get_or-set_same wa 0 upto 0 t.room ∙ omega arith);
      blocks = λ u. (λ k. block_at (shape_c k) (words_c k) u)
          ∙ same_block z wa after u t.later
          (λ i. get_or-set_other wa 0 (presence z u) upto 0 (λ bad. omega arith));
    }

-- or it was not below already
pub close_same : (a : SeatFace) (upto : ℕ) → upto ≤ closing a.view.words → Closes a a upto
close_same a upto le = record {
  on = record { words = a.view.words; only = refl; later = later_self a.view.shape a.view.words };
  closing = omega arith;
  blocks = λ u. refl;
}
