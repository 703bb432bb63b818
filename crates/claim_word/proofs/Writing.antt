-- How entries are written word by word.
use Rattle.std.proofs.Common.{◌≡◌, ℕ, ◌+◌, ◌-◌, ◌*◌, ◌<◌, ◌≤◌, List, [], ◌∷◌, ◌++◌, length, get_or}
use Rattle.std.proofs.Common.{set, drop, refl, sym, ap, ◌∙◌, subst, arith, length-set}
use Rattle.std.proofs.Common.{length-append, get_or-set_same, get_or-set_other}
use Rattle.std.proofs.lemmas.List.{get_or_append_left, get_or-append_right}
use Rattle.std.proofs.lemmas.List.Elements.{All-append}
use Rattle.std.specs.List.{All}
use mathlib.Core.Logic.{dite}
use native.Mathlib.Decide.{ℕ_discrete}
use Rattle.map_entry.specs.declared.entry.Entry.{Entry}
use Rattle.claim_rule.specs.declared.view.View.{View}
use Rattle.claim_rule.specs.Views.{wrote}
use Rattle.claim_rule.specs.Words.{places, stride, entry_words, IsSpeltAt, Spells}
use Rattle.claim_word.specs.Writings.{IsWide, WroteAt, WroteAll}
use Rattle.claim_word.proofs.Spelling.{long}

-- the view after the first n words of an entry were written
pub record WroteSome (v w : View) (place : ℕ) (e : Entry) (n : ℕ) : Type 0 where
  pub only : w ≡ record v { cells = w.cells }
  pub same_long : length w.cells ≡ length v.cells
  pub some_words : (k : ℕ) → k < n
      → get_or w.cells (place * stride + k) 0 ≡ get_or (entry_words e) k 0
  pub before : (p : ℕ) → p < place * stride → get_or w.cells p 0 ≡ get_or v.cells p 0

pub wrote_none : (v : View) (place : ℕ) (e : Entry) → WroteSome v v place e 0
wrote_none v place e =
    record {
      only = refl;
      same_long = refl;
      some_words = λ k lt. absurd (omega arith);
      before = λ p lt. refl;
    }

pub wrote_next : (v w : View) (place : ℕ) (e : Entry) (n c x : ℕ) → WroteSome v w place e n
    → n < stride → place < places → length v.cells ≡ places * stride
    → c ≡ place * stride + n → x ≡ get_or (entry_words e) n 0
    → WroteSome v (wrote w c x) place e (n + 1)
wrote_next v w place e n c x so short room wide at is =
    let inside : c < length w.cells = let l = so.same_long in omega arith in record {
      only = ap (λ (u : View). record u { cells = set w.cells c x }) so.only;
      same_long = length-set w.cells c x ∙ so.same_long;
      some_words = λ k lt. dite (ℕ_discrete k n)
          (λ same.
          let there : place * stride + k ≡ c = omega arith in
          ap (λ (p : ℕ). get_or (set w.cells c x) p 0) there
          ∙ (get_or-set_same w.cells c x 0 inside
          ∙ (is ∙ ap (λ (m : ℕ). get_or (entry_words e) m 0) (sym same))))
          (λ other. get_or-set_other w.cells c (place * stride + k) x 0 (λ bad. other (omega arith))
          ∙ so.some_words k (omega arith));
      before = λ p lt. get_or-set_other w.cells c p x 0 (λ bad. omega arith) ∙ so.before p lt;
    }

pub wrote_whole : (v w : View) (place : ℕ) (e : Entry) (n : ℕ) → WroteSome v w place e n
    → length (entry_words e) ≤ n → WroteAt v w place e
wrote_whole v w place e n so all =
    record {
      only = so.only;
      long = so.same_long;
      spelt = λ k lt. so.some_words k (omega arith);
      before = so.before;
    }

-- the first n of all entries are spelt
abbrev pub SpeltBelow : List ℕ → List Entry → ℕ → Type 0
SpeltBelow cells all n = (i : ℕ) (d : Entry) → i < n → IsSpeltAt cells i (get_or all i d)

-- the view after the first n of the new entries were written
pub record WroteFirst (v w : View) (new : List Entry) (n : ℕ) : Type 0 where
  pub only : w ≡ record v { cells = w.cells }
  pub same_long : length w.cells ≡ length v.cells
  pub spelt : SpeltBelow w.cells (v.entries ++ new) (length v.entries + n)

pub wrote_first : (v : View) (new : List Entry) → Spells v.cells v.entries → WroteFirst v v new 0
wrote_first v new spelt = record {
  only = refl;
  same_long = refl;
  spelt = λ i d lt.
      let in_front : i < length v.entries = omega arith in
      subst (IsSpeltAt v.cells i) (sym (get_or_append_left v.entries new d i in_front))
      (spelt i d in_front);
}

short_words : (e : Entry) → IsWide e → length (entry_words e) ≤ stride
short_words e wide = let l = long e in let r = wide.row in omega arith

pub wrote_another : (v w x : View) (new : List Entry) (n : ℕ) (e : Entry) → All IsWide v.entries
    → All IsWide new → WroteFirst v w new n → n < length new
    → ((d : Entry) → e ≡ get_or new n d) → WroteAt w x (length v.entries + n) e
    → WroteFirst v x new (n + 1)
wrote_another v w x new n e wide wide_new so lt is at = record {
  only = at.only ∙ ap (λ (u : View). record u { cells = x.cells }) so.only;
  same_long = at.long ∙ so.same_long;
  spelt = λ i d below.
      let all : List Entry = v.entries ++ new in let grown = length-append v.entries new in
      dite (ℕ_discrete i (length v.entries + n))
      (λ same.
      let behind = get_or-append_right v.entries new (length v.entries) (length v.entries + n) d
      refl (omega arith) in
      let place : (length v.entries + n) - length v.entries ≡ n = omega arith in
      let right : get_or all i d ≡ e = ap (λ (j : ℕ). get_or all j d) same
      ∙ (behind ∙ (ap (λ (j : ℕ). get_or new j d) place ∙ sym (is d))) in
      subst (λ (z : ℕ × Entry). IsSpeltAt x.cells z.0 z.1) (λ k. (sym same k, sym right k))
      at.spelt)
      (λ other.
      let under : i < length v.entries + n = omega arith in
      let few = short_words (get_or all i d)
      (All-append IsWide v.entries new wide wide_new i d (omega arith)) in
      λ k short. at.before (i * stride + k) (omega arith) ∙ so.spelt i d under k short);
}

pub wrote_all : (v w : View) (new : List Entry) (n : ℕ) → WroteFirst v w new n → length new ≤ n
    → WroteAll v w new
wrote_all v w new n so all =
    record {
      only = so.only;
      long = so.same_long;
      spelt = λ i d lt. so.spelt i d (let g = length-append v.entries new in omega arith);
    }

-- a list whose head is written anew
pub head_set : (ws : List ℕ) (x : ℕ) → 0 < length ws → set ws 0 x ≡ x ∷ drop 1 (set ws 0 x)
head_set [] x some_word = absurd (omega arith)
head_set (w ∷ ws) x some_word = refl

pub tail_set : (ws : List ℕ) (x : ℕ) → drop 1 (set ws 0 x) ≡ drop 1 ws
tail_set [] x = refl
tail_set (w ∷ ws) x = refl
