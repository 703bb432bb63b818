-- What the chains keep: as more heads are known, as one more entry is linked, as one is followed.
use Rattle.std.proofs.Common.{◌≡◌, ◌≢◌, ℕ, zero, suc, ◌+◌, ◌<◌, ◌≤◌, List, [], ◌∷◌, ◌++◌, length}
use Rattle.std.proofs.Common.{get_or, get_or-set_same, length-append, length-set, ◌^◌, cond, eqb}
use Rattle.std.proofs.Common.{inl, inr, set, refl, sym, ap, ◌∙◌, subst, arith}
use Rattle.std.specs.Prelude.{Option, Some, None, IfSome, IfNone, IsSomeAnd, replicate}
use Rattle.std.specs.Prelude.{vec_capacity, ◌&&◌, nat_lt}
use Rattle.std.proofs.lemmas.List.{get_or_append_left, get_or_at, length-replicate}
use Rattle.std.proofs.lemmas.List.{get_or-set_other, length_push}
use Rattle.std.proofs.lemmas.Bool.Decides.{nat_tests}
use Rattle.map_entry.specs.Tick.{frame_key}
use mathlib.Core.Logic.{dite}
use native.Mathlib.Decide.{ℕ_discrete}
use Rattle.std.proofs.lemmas.Bool.{cases_lt}
use Rattle.claim_rule.specs.Views.{Begins}
use Rattle.claim_rule.specs.Words.{places}
use Rattle.claim_word.specs.declared.chain.Head.{Head}
use Rattle.claim_word.specs.declared.chain.Track.{Track}
use Rattle.claim_word.specs.declared.chain.Chains.{Chains}
use Rattle.claim_word.specs.Chains.{no_head, head_at, output_at, head_due, due_at, next_at}
use Rattle.claim_word.specs.Chains.{track_at}
use Rattle.claim_word.specs.Chains.{IsLive, IsNext, IsEnd, IsLinked, IsChain, IsTrack, IsBare}
use Rattle.claim_word.specs.Chains.{IsChained, HasPassed, HavePassed, IsFirstDue, IsRuling}

-- ---- what is said of an option

pub if_some : {A : Type 0} (P Q : A → Type 0) (o : Option A) → ((x : A) → P x → Q x) → IfSome o P
    → IfSome o Q
if_some P Q (Some x) step p = step x p
if_some P Q None step p = p

pub if_none : {A : Type 0} (P Q : Type 0) (o : Option A) → (P → Q) → IfNone o P → IfNone o Q
if_none P Q (Some x) step p = p
if_none P Q None step p = step p

pub both_some : {A : Type 0} (P Q R : A → Type 0) (o : Option A) → ((x : A) → P x → Q x → R x)
    → IfSome o P → IfSome o Q → IfSome o R
both_some P Q R (Some x) step p q = step x p q
both_some P Q R None step p q = p

pub of_some : {A : Type 0} (P : A → Type 0) (o : Option A) (x : A) → o ≡ Some x → IfSome o P → P x
of_some P o x is p = subst (λ (r : Option _). IfSome r P) is p

pub of_none : {A : Type 0} (P : Type 0) (o : Option A) → o ≡ None → IfNone o P → P
of_none P o is p = subst (λ (r : Option _). IfNone r P) is p

-- ---- lists that begin with the same heads

abbrev pub AreAlike : List Head → List Head → ℕ → Type 0
AreAlike hs xs n = (k : ℕ) → k < n → head_at hs k ≡ head_at xs k

pub alike_begins : (hs xs : List Head) (n : ℕ) → Begins hs xs → n ≤ length hs → AreAlike hs xs n
alike_begins hs xs n b few = λ k lt.
    sym (ap (λ (l : List Head). head_at l k) b.1
    ∙ get_or_append_left hs b.0 no_head k (omega (arith, few, lt)))

live_alike : (hs xs : List Head) (n k : ℕ) → AreAlike hs xs n → k < n → IsLive hs n k
    → IsLive xs n k
live_alike hs xs n k same lt live = λ j after there o.
    let a = same k lt in let b = same j there in
    subst (λ (z : Head × Head). head_due z.0 ≤ head_due z.1) (λ i. (a i, b i))
    (live j after there
    (ap (λ (h : Head). h.output) b ∙ (o ∙ sym (ap (λ (h : Head). h.output) a))))

alike_back : (hs xs : List Head) (n : ℕ) → AreAlike hs xs n → AreAlike xs hs n
alike_back hs xs n same = λ k lt. sym (same k lt)

next_alike : (hs xs : List Head) (n k q : ℕ) → AreAlike hs xs n → k < n → IsNext hs n k q
    → IsNext xs n k q
next_alike hs xs n k q same lt x =
    let a = same k lt in let b = same q x.there in record {
      after = x.after;
      there = x.there;
      output = sym (ap (λ (h : Head). h.output) b) ∙ (x.output ∙ ap (λ (h : Head). h.output) a);
      first = λ j after there o.
          let c = same j there in
          subst (λ (z : Head × Head). head_due z.0 ≤ head_due z.1) (λ i. (b i, c i))
          (x.first j after there
          (ap (λ (h : Head). h.output) c ∙ (o ∙ sym (ap (λ (h : Head). h.output) a))));
    }

end_alike : (hs xs : List Head) (n k : ℕ) → AreAlike hs xs n → k < n → IsEnd hs n k → IsEnd xs n k
end_alike hs xs n k same lt end = λ j after there o.
    end j after there
    (ap (λ (h : Head). h.output) (same j there)
    ∙ (o ∙ sym (ap (λ (h : Head). h.output) (same k lt))))

linked_alike : (hs xs : List Head) (n : ℕ) (next : List (Option ℕ)) (k : ℕ) → AreAlike hs xs n
    → k < n → IsLinked hs n next k → IsLinked xs n next k
linked_alike hs xs n next k same lt l = record {
  some = if_some (IsNext hs n k) (IsNext xs n k) (next_at next k)
      (λ q x. next_alike hs xs n k q same lt x) l.some;
  none = if_none (IsEnd hs n k) (IsEnd xs n k) (next_at next k)
      (λ e. end_alike hs xs n k same lt e) l.none;
}

chain_alike : (hs xs : List Head) (n : ℕ) (next : List (Option ℕ)) (from : ℕ) → AreAlike hs xs n
    → IsChain hs n next from → IsChain xs n next from
chain_alike hs xs n next from same c = record {
  there = c.there;
  live = live_alike hs xs n from same c.there c.live;
  links = λ k le lt o live.
      linked_alike hs xs n next k same lt
      (c.links k le lt
      (ap (λ (h : Head). h.output) (same k lt)
      ∙ (o ∙ sym (ap (λ (h : Head). h.output) (same from c.there))))
      (live_alike xs hs n k (alike_back hs xs n same) lt live));
}

track_alike : (hs xs : List Head) (n : ℕ) (next : List (Option ℕ)) (output : ℕ) (t : Track)
    → AreAlike hs xs n → IsTrack hs n next output t → IsTrack xs n next output t
track_alike hs xs n next output t same x = record {
  begins = sym (ap (λ (h : Head). h.output) (same t.at x.chain.there)) ∙ x.begins;
  chain = chain_alike hs xs n next t.at same x.chain;
  after = x.after;
  there = x.there;
  newest = sym (ap (λ (h : Head). h.output) (same t.newest x.there)) ∙ x.newest;
  end = end_alike hs xs n t.newest same x.there x.end;
}

-- the chains stay as more heads are known
pub chained_begins : (hs xs : List Head) (outputs : ℕ) (c : Chains) → Begins hs xs
    → IsChained hs outputs c → IsChained xs outputs c
chained_begins hs xs outputs c b x =
    let l = ap length b.1 in let a = length-append hs b.0 in
    let n : ℕ = length c.next.items in
    let same : AreAlike hs xs n = alike_begins hs xs n b x.few in record {
      room = x.room;
      few = let f = x.few in omega arith;
      count = x.count;
      tracks = λ output.
          if_some (IsTrack hs n c.next.items output) (IsTrack xs n c.next.items output)
          (track_at c.tracks.items output)
          (λ t is. track_alike hs xs n c.next.items output t same is) (x.tracks output);
      bare = λ output there.
          if_none (IsBare hs n output) (IsBare xs n output) (track_at c.tracks.items output)
          (λ bare j lt o. bare j lt (ap (λ (h : Head). h.output) (same j lt) ∙ o))
          (x.bare output there);
    }

-- and so do the entries that are left out
pub passed_begins : (hs xs : List Head) (outputs reached : ℕ) (c : Chains) → Begins hs xs
    → IsChained hs outputs c → HavePassed hs reached c.tracks.items
    → HavePassed xs reached c.tracks.items
passed_begins hs xs outputs reached c b x passed =
    let n : ℕ = length c.next.items in
    let same : AreAlike hs xs n = alike_begins hs xs n b x.few in λ output.
    both_some (IsTrack hs n c.next.items output) (λ t. HasPassed hs reached output t.at)
    (λ t. HasPassed xs reached output t.at) (track_at c.tracks.items output)
    (λ t is p j before o since.
    let a = same t.at is.chain.there in
    let d = same j (omega (arith, before, is.chain.there)) in
    subst (λ (z : Head × Head). head_due z.0 ≤ head_due z.1) (λ i. (a i, d i))
    (p j before (ap (λ (h : Head). h.output) d ∙ o)
    (subst (λ (h : Head). reached < head_due h) (sym a) since)))
    (x.tracks output) (passed output)

-- a later frame may be reached
pub passed_later : (hs : List Head) (a b : ℕ) (tracks : List (Option Track)) → a ≤ b
    → HavePassed hs a tracks → HavePassed hs b tracks
passed_later hs a b tracks le passed = λ output.
    if_some (λ (t : Track). HasPassed hs a output t.at) (λ t. HasPassed hs b output t.at)
    (track_at tracks output)
    (λ t p j before o since. p j before o (omega (arith, le, since))) (passed output)

-- ---- a chain that is followed

-- it goes on from each entry further on that is live
pub chain_on : (hs : List Head) (n : ℕ) (next : List (Option ℕ)) (from k : ℕ)
    → IsChain hs n next from → from ≤ k → k < n → output_at hs k ≡ output_at hs from
    → IsLive hs n k → IsChain hs n next k
chain_on hs n next from k c le lt o live = record {
  there = lt;
  live = live;
  links = λ j on there same alive. c.links j (omega (arith, le, on)) there (same ∙ o) alive;
}

-- the next entry is live
pub live_next : (hs : List Head) (n k q : ℕ) → IsNext hs n k q → IsLive hs n q
live_next hs n k q x = λ j after there o.
    x.first j (omega (arith, x.after, after)) there (o ∙ x.output)

-- so the chain goes on from it
pub chain_next : (hs : List Head) (n : ℕ) (next : List (Option ℕ)) (k q : ℕ) → IsChain hs n next k
    → next_at next k ≡ Some q → IsNext hs n k q × IsChain hs n next q
chain_next hs n next k q c is =
    let x : IsNext hs n k q = of_some (IsNext hs n k) (next_at next k) q is
    (c.links k (omega arith) c.there refl c.live).some in
    (x, chain_on hs n next k q c (omega (arith, x.after)) x.there x.output (live_next hs n k q x))

past_end : (hs : List Head) (n key k : ℕ) (o : Option ℕ) → IfSome o (IsNext hs n k)
    → IfNone o (IsEnd hs n k) → IfSome o (λ q. key < due_at hs q) → (j : ℕ) → k < j → j < n
    → output_at hs j ≡ output_at hs k → key < due_at hs j
past_end hs n key k None x end late j after there o = absurd (end j after there o)
past_end hs n key k (Some q) x end late j after there o =
    let f = x.first j after there o in omega (arith, f, late)

-- where the next entry has not taken effect, the last one that has is reached
pub ruling_end : (hs : List Head) (n key k : ℕ) (next : List (Option ℕ)) → IsChain hs n next k
    → due_at hs k ≤ key → IfSome (next_at next k) (λ q. key < due_at hs q)
    → IsRuling hs n key (output_at hs k) k
ruling_end hs n key k next c come late =
    let l = c.links k (omega arith) c.there refl c.live in record {
      there = c.there;
      its = refl;
      come = come;
      past = past_end hs n key k (next_at next k) l.some l.none late;
    }

-- ---- one entry more is linked

-- what is known of the first n heads is known of those that are live among one more
live_less : (hs : List Head) (n k : ℕ) → IsLive hs (n + 1) k → IsLive hs n k
live_less hs n k live = λ j after there o. live j after (omega (arith, there)) o

-- the last of n + 1 places, or one before
last_or : (P : ℕ → Type 0) (n : ℕ) → P n → ((j : ℕ) → j < n → P j) → (j : ℕ) → j < n + 1 → P j
last_or P n last rest j lt = dite (ℕ_discrete j n)
    (λ same. subst P (sym same) last)
    (λ other. rest j (omega (arith, lt, other)))

-- another output's chain
pub track_other : (hs : List Head) (n : ℕ) (next more : List (Option ℕ)) (output : ℕ) (t : Track)
    → output_at hs n ≢ output
    → ((k : ℕ) → k < n → output_at hs k ≡ output → next_at more k ≡ next_at next k)
    → IsTrack hs n next output t → IsTrack hs (n + 1) more output t
track_other hs n next more output t other stay x =
    let begins : output_at hs t.at ≡ output = x.begins in record {
      begins = x.begins;
      chain = record {
        there = let c = x.chain.there in omega arith;
        live = λ j after there o.
            last_or (λ j. t.at < j → output_at hs j ≡ output_at hs t.at
            → due_at hs t.at ≤ due_at hs j) n
            (λ _ same. absurd (other (same ∙ begins)))
            (λ j lt on same. x.chain.live j on lt same) j there after o;
        links = λ k le there o live.
            last_or (λ k. t.at ≤ k → output_at hs k ≡ output_at hs t.at → IsLive hs (n + 1) k
            → IsLinked hs (n + 1) more k) n
            (λ _ same _. absurd (other (same ∙ begins)))
            (λ k lt on same alive.
            let mine : output_at hs k ≡ output = same ∙ begins in
            let l = x.chain.links k on lt same (live_less hs n k alive) in record {
              some = subst (λ (r : Option ℕ). IfSome r (IsNext hs (n + 1) k))
                  (sym (stay k lt mine))
                  (if_some (IsNext hs n k) (IsNext hs (n + 1) k) (next_at next k)
                  (λ q y. record {
                    after = y.after;
                    there = let w = y.there in omega arith;
                    output = y.output;
                    first = λ j after there o.
                        last_or (λ j. k < j → output_at hs j ≡ output_at hs k
                        → due_at hs q ≤ due_at hs j) n
                        (λ _ its. absurd (other (its ∙ mine)))
                        (λ j lt on its. y.first j on lt its) j there after o;
                  }) l.some);
              none = subst (λ (r : Option ℕ). IfNone r (IsEnd hs (n + 1) k))
                  (sym (stay k lt mine))
                  (if_none (IsEnd hs n k) (IsEnd hs (n + 1) k) (next_at next k)
                  (λ end j after there o.
                  last_or (λ j. k < j → output_at hs j ≢ output_at hs k) n
                  (λ _ its. other (its ∙ mine))
                  (λ j lt on its. end j on lt its) j there after o) l.none);
            }) k there le o live;
      };
      after = x.after;
      there = let w = x.there in omega arith;
      newest = x.newest;
      end = λ j after there o.
          last_or (λ j. t.newest < j → output_at hs j ≢ output_at hs t.newest) n
          (λ _ its. other (its ∙ x.newest))
          (λ j lt on its. x.end j on lt its) j there after o;
    }

-- no place lies between
none_after : (hs : List Head) (n : ℕ) → IsEnd hs (n + 1) n
none_after hs n = λ j after there o. omega (arith, after, there)

-- the new entry leads nowhere
newest_linked : (hs : List Head) (n : ℕ) (next : List (Option ℕ)) → next_at next n ≡ None
    → IsLinked hs (n + 1) next n
newest_linked hs n next is = record {
  some = subst (λ (r : Option ℕ). IfSome r (IsNext hs (n + 1) n)) (sym is) tt;
  none = subst (λ (r : Option ℕ). IfNone r (IsEnd hs (n + 1) n)) (sym is) (none_after hs n);
}

-- a chain that begins with the new entry
pub track_fresh : (hs : List Head) (n : ℕ) (next : List (Option ℕ)) → next_at next n ≡ None
    → IsTrack hs (n + 1) next (output_at hs n) (record { at = n; newest = n })
track_fresh hs n next is = record {
  begins = refl;
  chain = record {
    there = omega arith;
    live = λ j after there o. absurd (none_after hs n j after there o);
    links = λ k le there o live.
        let same : n ≡ k = omega (arith, le, there) in
        subst (IsLinked hs (n + 1) next) same (newest_linked hs n next is);
  };
  after = omega arith;
  there = omega arith;
  newest = refl;
  end = none_after hs n;
}

-- what an entry before the one to which the new one is linked leads to
linked_before : (hs : List Head) (n k b : ℕ) (o : Option ℕ) → k < b → b < n
    → output_at hs b ≡ output_at hs k → due_at hs b ≤ due_at hs n → IfSome o (IsNext hs n k)
    → IfNone o (IsEnd hs n k)
    → IfSome o (IsNext hs (n + 1) k) × IfNone o (IsEnd hs (n + 1) k)
linked_before hs n k b None before there same come x end = absurd (end b before there same)
linked_before hs n k b (Some q) before there same come x end = (
  record {
    after = x.after;
    there = let w = x.there in omega arith;
    output = x.output;
    first = λ j after lt o.
        last_or (λ j. k < j → output_at hs j ≡ output_at hs k → due_at hs q ≤ due_at hs j) n
        (λ _ _. let f = x.first b before there same in omega (arith, f, come))
        (λ j lt on its. x.first j on lt its) j lt after o;
  },
  tt,
)

-- a place is in front of another where nothing further on takes effect so early
front_of : (k b early late : ℕ) → k ≢ b → (b < k → late < early) → early ≤ late → k < b
front_of k b early late other past on_time = elim (cases_lt b k) [
  | inl further ↦ let p = past further in absurd (omega (arith, p, on_time))
  | inr le ↦ omega (arith, le, other)
]

-- a chain to which the new entry is linked, after the last one that takes effect no later
pub track_linked : (hs : List Head) (n : ℕ) (next more : List (Option ℕ)) (t : Track) (b : ℕ)
    → IsTrack hs n next (output_at hs n) t → t.at ≤ b
    → IsRuling hs n (due_at hs n) (output_at hs n) b → next_at more b ≡ Some n
    → next_at more n ≡ None → ((k : ℕ) → k < n → k ≢ b → next_at more k ≡ next_at next k)
    → IsTrack hs (n + 1) more (output_at hs n) (record { at = t.at; newest = n })
track_linked hs n next more t b x le r here last stay =
    let begins : output_at hs t.at ≡ output_at hs n = x.begins in
    let first_come : due_at hs t.at ≤ due_at hs n = dite (ℕ_discrete t.at b)
    (λ same. subst (λ (k : ℕ). due_at hs k ≤ due_at hs n) (sym same) r.come)
    (λ other. let l = x.chain.live b (omega (arith, le, other)) r.there
    (r.its ∙ sym begins) in let c = r.come in omega (arith, l, c)) in record {
      begins = x.begins;
      chain = record {
        there = let c = x.chain.there in omega arith;
        live = λ j after there o.
            last_or (λ j. t.at < j → output_at hs j ≡ output_at hs t.at
            → due_at hs t.at ≤ due_at hs j) n
            (λ _ _. first_come)
            (λ j lt on same. x.chain.live j on lt same) j there after o;
        links = λ k from there o live.
            last_or (λ k. t.at ≤ k → output_at hs k ≡ output_at hs t.at → IsLive hs (n + 1) k
            → IsLinked hs (n + 1) more k) n
            (λ _ _ _. newest_linked hs n more last)
            (λ k lt on same alive.
            let mine : output_at hs k ≡ output_at hs n = same ∙ begins in
            let on_time = alive n lt (omega arith) (sym mine) in
            dite (ℕ_discrete k b)
            (λ is. subst (IsLinked hs (n + 1) more) (sym is) (record {
              some = subst (λ (r : Option ℕ). IfSome r (IsNext hs (n + 1) b)) (sym here) (record {
                after = r.there;
                there = omega arith;
                output = sym r.its;
                first = λ j after there o.
                    last_or (λ j. b < j → output_at hs j ≡ output_at hs b
                    → due_at hs n ≤ due_at hs j) n
                    (λ _ _. omega arith)
                    (λ j lt on its. let p = r.past j on lt (its ∙ r.its) in omega (arith, p))
                    j there after o;
              });
              none = subst (λ (r : Option ℕ). IfNone r (IsEnd hs (n + 1) b)) (sym here) tt;
            }))
            (λ other.
            let before = front_of k b (due_at hs k) (due_at hs n) other
            (λ past. r.past k past lt mine) on_time in
            let l = x.chain.links k on lt same (live_less hs n k alive) in
            let both = linked_before hs n k b (next_at next k) before r.there
            (r.its ∙ sym mine) r.come l.some l.none in record {
              some = subst (λ (r : Option ℕ). IfSome r (IsNext hs (n + 1) k))
                  (sym (stay k lt other)) both.0;
              none = subst (λ (r : Option ℕ). IfNone r (IsEnd hs (n + 1) k))
                  (sym (stay k lt other)) both.1;
            })) k there from o live;
      };
      after = let c = x.chain.there in omega arith;
      there = omega arith;
      newest = refl;
      end = none_after hs n;
    }

-- ---- the entries that are left out

-- of an output that had none
pub passed_bare : (hs : List Head) (n reached output place : ℕ) → place ≤ n → IsBare hs n output
    → HasPassed hs reached output place
passed_bare hs n reached output place le bare = λ j before o since.
    absurd (bare j (omega (arith, before, le)) o)

-- of a chain that the new entry takes the place of
pub passed_fresh : (hs : List Head) (n reached : ℕ) (next : List (Option ℕ)) (t : Track)
    → IsTrack hs n next (output_at hs n) t → due_at hs n < due_at hs t.at
    → HasPassed hs reached (output_at hs n) t.at → HasPassed hs reached (output_at hs n) n
passed_fresh hs n reached next t x later passed = λ j before o since.
    elim (cases_lt j t.at) [
      | inl front ↦ let p = passed j front o (omega (arith, since, later)) in
          omega (arith, p, later)
      | inr le ↦ dite (ℕ_discrete t.at j)
          (λ same. subst (λ (k : ℕ). due_at hs n ≤ due_at hs k) same (omega (arith, later)))
          (λ other. let l = x.chain.live j (omega (arith, le, other)) before (o ∙ sym x.begins) in
          omega (arith, l, later))
    ]

-- of a chain that went on to an entry that has taken effect
pub passed_on : (hs : List Head) (reached output place : ℕ) → due_at hs place ≤ reached
    → HasPassed hs reached output place
passed_on hs reached output place come = λ j before o since. absurd (omega (arith, come, since))

-- the chain of an output has begun where one of its entries has taken effect
pub not_begun : (hs : List Head) (n key : ℕ) (next : List (Option ℕ)) (output : ℕ) (t : Track)
    → IsTrack hs n next output t → HasPassed hs key output t.at → key < due_at hs t.at → (j : ℕ)
    → j < n → output_at hs j ≡ output → key < due_at hs j
not_begun hs n key next output t x passed late j lt o =
    elim (cases_lt j t.at) [
      | inl front ↦ let p = passed j front o late in omega (arith, p, late)
      | inr le ↦ dite (ℕ_discrete t.at j)
          (λ same. subst (λ (k : ℕ). key < due_at hs k) same late)
          (λ other. let l = x.chain.live j (omega (arith, le, other)) lt (o ∙ sym x.begins) in
          omega (arith, l, late))
    ]

begun_by : (hs : List Head) (n key : ℕ) (next : List (Option ℕ)) (output : ℕ) (o : Option Track)
    → IfSome o (IsTrack hs n next output) → IfNone o (IsBare hs n output)
    → IfSome o (λ t. HasPassed hs key output t.at)
    → (((j : ℕ) → j < n → output_at hs j ≡ output → key < due_at hs j) → ⊥)
    → IsSomeAnd o (λ t. due_at hs t.at ≤ key)
begun_by hs n key next output None x bare passed some =
    absurd (some (λ j lt o. absurd (bare j lt o)))
begun_by hs n key next output (Some t) x bare passed some = elim (cases_lt key (due_at hs t.at)) [
  | inl late ↦ absurd (some (not_begun hs n key next output t x passed late))
  | inr come ↦ come
]

pub begun : (hs : List Head) (outputs key output : ℕ) (c : Chains) → IsChained hs outputs c
    → output < outputs → length c.next.items ≡ length hs → HavePassed hs key c.tracks.items
    → (((j : ℕ) → j < length hs → output_at hs j ≡ output → key < due_at hs j) → ⊥)
    → IsSomeAnd (track_at c.tracks.items output) (λ t. due_at hs t.at ≤ key)
begun hs outputs key output c x there all passed some =
    begun_by hs (length c.next.items) key c.next.items output (track_at c.tracks.items output)
    (x.tracks output) (x.bare output there) (passed output)
    (λ none. some (λ j lt o. none j (omega (arith, lt, all)) o))

-- ---- chains without entries

-- a list of nothing has nothing at any place
pub none_there : (A : Type 0) (n k : ℕ)
    → get_or {A = Option A} (replicate n None) k None ≡ None
none_there A zero k = refl
none_there A (suc n) zero = refl
none_there A (suc n) (suc k) = none_there A n k

pub chained_new : (outputs : ℕ) (c : Chains) → c.next.items ≡ [] → places ≤ vec_capacity c.next
    → c.tracks.items ≡ replicate outputs None → IsChained [] outputs c
chained_new outputs c nil room none = record {
  room = room;
  few = let l = ap length nil in omega arith;
  count = ap length none ∙ length-replicate outputs None;
  tracks = λ o.
      subst (λ (r : Option Track). IfSome r (IsTrack [] (length c.next.items) c.next.items o))
      (sym (ap (λ (ts : List (Option Track)). track_at ts o) none ∙ none_there Track outputs o)) tt;
  bare = λ o there.
      subst (λ (r : Option Track). IfNone r (IsBare [] (length c.next.items) o))
      (sym (ap (λ (ts : List (Option Track)). track_at ts o) none ∙ none_there Track outputs o))
      (λ j lt. absurd (let l = ap length nil in omega (arith, lt, l)));
}

pub passed_new : (outputs reached : ℕ) (c : Chains) → c.tracks.items ≡ replicate outputs None
    → HavePassed [] reached c.tracks.items
passed_new outputs reached c none = λ o.
    subst (λ (r : Option Track). IfSome r (λ t. HasPassed [] reached o t.at))
    (sym (ap (λ (ts : List (Option Track)). track_at ts o) none ∙ none_there Track outputs o)) tt

-- ---- what the code makes of the lists

-- the new entry is linked after another
pub track_set : (hs : List Head) (next : List (Option ℕ)) (t : Track) (b : ℕ)
    → IsTrack hs (length next) next (output_at hs (length next)) t → t.at ≤ b
    → IsRuling hs (length next) (due_at hs (length next)) (output_at hs (length next)) b
    → IsTrack hs (length next + 1) (set next b (Some (length next)) ++ None ∷ [])
    (output_at hs (length next)) (record { at = t.at; newest = length next })
track_set hs next t b x le r =
    let n : ℕ = length next in let done : List (Option ℕ) = set next b (Some n) in
    let long : length done ≡ n = length-set next b (Some n) in
    track_linked hs n next (done ++ None ∷ []) t b x le r
    (get_or_append_left done (None ∷ []) None b (omega (arith, long, r.there))
    ∙ get_or-set_same next b (Some n) None r.there)
    (get_or_at done None [] None n long)
    (λ k lt other. get_or_append_left done (None ∷ []) None k (omega (arith, long, lt))
    ∙ get_or-set_other next b k (Some n) None other)

-- the chains of all outputs, where that of the new entry's is known
pub chained_linked : (hs : List Head) (outputs : ℕ) (c d : Chains) (mid : List (Option ℕ)) (at : ℕ)
    → IsChained hs outputs c → length c.next.items < length hs
    → length mid ≡ length c.next.items → d.next.items ≡ mid ++ None ∷ []
    → places ≤ vec_capacity d.next
    → output_at hs (length c.next.items) < outputs
    → d.tracks.items ≡ set c.tracks.items (output_at hs (length c.next.items))
    (Some (record { at = at; newest = length c.next.items }))
    → ((k : ℕ) → output_at hs k ≢ output_at hs (length c.next.items)
    → next_at mid k ≡ next_at c.next.items k)
    → IsTrack hs (length c.next.items + 1) (mid ++ None ∷ [])
    (output_at hs (length c.next.items)) (record { at = at; newest = length c.next.items })
    → IsChained hs outputs d
chained_linked hs outputs c d mid at x more long next_is room there tracks_are stay mine =
    let n : ℕ = length c.next.items in let its : ℕ = output_at hs n in
    let t : Track = record { at = at; newest = n } in
    let all : List (Option ℕ) = mid ++ None ∷ [] in
    let count : length d.next.items ≡ n + 1 = ap length next_is
    ∙ (length_push mid None ∙ ap (λ k. k + 1) long) in
    let within : its < length c.tracks.items = let k = x.count in omega (arith, there, k) in
    let here : track_at d.tracks.items its ≡ Some t =
    ap (λ (ts : List (Option Track)). track_at ts its) tracks_are
    ∙ get_or-set_same c.tracks.items its (Some t) None within in
    let else_is = λ (o : ℕ) (other : o ≢ its).
    ap (λ (ts : List (Option Track)). track_at ts o) tracks_are
    ∙ get_or-set_other c.tracks.items its o (Some t) None other in record {
      room = room;
      few = omega (arith, count, more);
      count = ap length tracks_are ∙ (length-set c.tracks.items its (Some t) ∙ x.count);
      tracks = λ o. subst (λ (z : ℕ × List (Option ℕ)). IfSome (track_at d.tracks.items o)
          (IsTrack hs z.0 z.1 o)) (λ i. (sym count i, sym next_is i))
          (dite (ℕ_discrete o its)
          (λ same. subst (λ (k : ℕ). IfSome (track_at d.tracks.items k) (IsTrack hs (n + 1) all k))
          (sym same) (subst (λ (r : Option Track). IfSome r (IsTrack hs (n + 1) all its))
          (sym here) mine))
          (λ other. subst (λ (r : Option Track). IfSome r (IsTrack hs (n + 1) all o))
          (sym (else_is o other))
          (if_some (IsTrack hs n c.next.items o) (IsTrack hs (n + 1) all o)
          (track_at c.tracks.items o)
          (λ u was. track_other hs n c.next.items all o u (λ is. other (sym is))
          (λ k lt on. get_or_append_left mid (None ∷ []) None k (omega (arith, lt, long))
          ∙ stay k (λ is. other (sym on ∙ is))) was)
          (x.tracks o))));
      bare = λ o few. subst (λ (z : ℕ). IfNone (track_at d.tracks.items o) (IsBare hs z o))
          (sym count)
          (dite (ℕ_discrete o its)
          (λ same. subst (λ (k : ℕ). IfNone (track_at d.tracks.items k) (IsBare hs (n + 1) k))
          (sym same) (subst (λ (r : Option Track). IfNone r (IsBare hs (n + 1) its)) (sym here) tt))
          (λ other. subst (λ (r : Option Track). IfNone r (IsBare hs (n + 1) o))
          (sym (else_is o other))
          (if_none (IsBare hs n o) (IsBare hs (n + 1) o) (track_at c.tracks.items o)
          (λ none j lt. last_or (λ j. output_at hs j ≢ o) n (λ is. other (sym is)) none j lt)
          (x.bare o few))));
    }

-- and what they have left out
pub passed_set : (hs : List Head) (reached its at newest : ℕ) (tracks more : List (Option Track))
    → HavePassed hs reached tracks → its < length tracks
    → more ≡ set tracks its (Some (record { at = at; newest = newest }))
    → HasPassed hs reached its at → HavePassed hs reached more
passed_set hs reached its at newest tracks more passed there is mine = λ o.
    let t : Track = record { at = at; newest = newest } in
    subst (λ (ts : List (Option Track)). IfSome (track_at ts o)
    (λ u. HasPassed hs reached o u.at)) (sym is)
    (dite (ℕ_discrete o its)
    (λ same. subst (λ (k : ℕ). IfSome (track_at (set tracks its (Some t)) k)
    (λ u. HasPassed hs reached k u.at)) (sym same)
    (subst (λ (r : Option Track). IfSome r (λ u. HasPassed hs reached its u.at))
    (sym (get_or-set_same tracks its (Some t) None there)) mine))
    (λ other. subst (λ (r : Option Track). IfSome r (λ u. HasPassed hs reached o u.at))
    (sym (get_or-set_other tracks its o (Some t) None other)) (passed o)))

-- a chain that went on
pub chained_on : (hs : List Head) (outputs : ℕ) (c d : Chains) (o : ℕ) (t : Track) (at : ℕ)
    → IsChained hs outputs c → length c.next.items ≡ length hs → o < outputs
    → track_at c.tracks.items o ≡ Some t → t.at ≤ at
    → IsChain hs (length c.next.items) c.next.items at → output_at hs at ≡ output_at hs t.at
    → d.next ≡ c.next
    → d.tracks.items ≡ set c.tracks.items o (Some (record { at = at; newest = t.newest }))
    → IsChained hs outputs d
chained_on hs outputs c d o t at x all there was le chain same next_is tracks_are =
    let n : ℕ = length c.next.items in let u : Track = record { at = at; newest = t.newest } in
    let within : o < length c.tracks.items = let k = x.count in omega (arith, there, k) in
    let y : IsTrack hs n c.next.items o t =
    of_some (IsTrack hs n c.next.items o) (track_at c.tracks.items o) t was (x.tracks o) in
    let goes : at ≤ t.newest = elim (cases_lt t.newest at) [
      | inl past ↦ absurd (y.end at past chain.there (same ∙ (y.begins ∙ sym y.newest)))
      | inr before ↦ before
    ] in
    let z : IsTrack hs n c.next.items o u = record {
      begins = same ∙ y.begins;
      chain = chain;
      after = goes;
      there = y.there;
      newest = y.newest;
      end = y.end;
    } in
    let here : track_at (set c.tracks.items o (Some u)) o ≡ Some u =
    get_or-set_same c.tracks.items o (Some u) None within in record {
      room = subst (λ v. places ≤ vec_capacity v) (sym next_is) x.room;
      few = subst (λ v. length v.items ≤ length hs) (sym next_is) x.few;
      count = ap length tracks_are ∙ (length-set c.tracks.items o (Some u) ∙ x.count);
      tracks = λ k. subst (λ v. IfSome (track_at d.tracks.items k)
          (IsTrack hs (length v.items) v.items k)) (sym next_is)
          (subst (λ (ts : List (Option Track)). IfSome (track_at ts k)
          (IsTrack hs n c.next.items k)) (sym tracks_are)
          (dite (ℕ_discrete k o)
          (λ is. subst (λ (j : ℕ). IfSome (track_at (set c.tracks.items o (Some u)) j)
          (IsTrack hs n c.next.items j)) (sym is)
          (subst (λ (r : Option Track). IfSome r (IsTrack hs n c.next.items o)) (sym here) z))
          (λ other. subst (λ (r : Option Track). IfSome r (IsTrack hs n c.next.items k))
          (sym (get_or-set_other c.tracks.items o k (Some u) None other)) (x.tracks k))));
      bare = λ k few. subst (λ v. IfNone (track_at d.tracks.items k) (IsBare hs (length v.items) k))
          (sym next_is)
          (subst (λ (ts : List (Option Track)). IfNone (track_at ts k) (IsBare hs n k))
          (sym tracks_are)
          (dite (ℕ_discrete k o)
          (λ is. subst (λ (j : ℕ). IfNone (track_at (set c.tracks.items o (Some u)) j)
          (IsBare hs n j)) (sym is)
          (subst (λ (r : Option Track). IfNone r (IsBare hs n o)) (sym here) tt))
          (λ other. subst (λ (r : Option Track). IfNone r (IsBare hs n k))
          (sym (get_or-set_other c.tracks.items o k (Some u) None other)) (x.bare k few))));
    }

-- the first frame at which the next entry takes effect
pub first_next : (hs : List Head) (next : List (Option ℕ)) (t f frames upto k q : ℕ)
    → IsChain hs (length hs) next k → IsRuling hs (length hs) (frame_key t f) (output_at hs k) k
    → next_at next k ≡ Some q → f < frames → frames ≤ 2 ^ 16 → (head_at hs q).offset < 2 ^ 16
    → upto ≡ cond (eqb (head_at hs q).tick t && nat_lt (head_at hs q).offset frames)
    (head_at hs q).offset frames
    → IsFirstDue hs t f frames upto k
first_next hs next t f frames upto k q c r is more few short result =
    let x = (chain_next hs (length hs) next k q c is).0 in
    let late = r.past q x.after x.there x.output in let h : Head = head_at hs q in
    let low : f < upto = grind (arith, nat_tests) in
    let high : upto ≤ frames = grind (arith, nat_tests) in
    let by : frame_key t upto ≤ due_at hs q = grind (arith, nat_tests) in
    let exact = λ (lt : upto < frames). (let e : due_at hs q ≤ frame_key t upto =
    grind (arith, nat_tests) in e) in record {
      goes_on = low;
      ends = high;
      later = λ j after there o. let d = x.first j after there o in omega (arith, by, d);
      first = λ lt rules_it.
          let p = rules_it.past q x.after x.there x.output in let e = exact lt in
          omega (arith, p, e);
    }
