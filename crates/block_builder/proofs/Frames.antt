-- The frames of a tick: what stands at one of them is replaced.
use Rattle.std.proofs.Common.{◌≡◌, ◌≢◌, ℕ, suc, ◌+◌, ◌-◌, ◌*◌, ◌<◌, ◌≤◌, Bool, true, false, cond}
use Rattle.std.proofs.Common.{not, List, ◌++◌, length, take, drop, get_or, set, Option, Some, None}
use Rattle.std.proofs.Common.{refl, sym, ap, subst, ◌∙◌, ◌⊎◌, inl, inr, arith, zero-add, eq-eqb}
use Rattle.std.specs.Prelude.{ℤ, pos, is_some, unwrap_or, replicate, IfSome, nat_eq, ◌&&◌}
use Rattle.std.specs.List.{flat_map, range_with_len}
use Rattle.std.specs.Option.{option_or}
use Rattle.std.proofs.lemmas.Bool.{ne_eqb, cases_eq, cases_lt, lt-ltb, le-ltb, and_right}
use Rattle.std.proofs.lemmas.Grind.{get_or-set_at}
use Rattle.std.proofs.lemmas.List.{length-replicate, length-set, get_or-set_other}
use Rattle.std.proofs.lemmas.List.FromFn.{length-map-range_with_len, get_or-map-range_with_len}
use Rattle.std.proofs.lemmas.List.FromFn.{fill_by_all}
use Rattle.list_laws.proofs.Options.{option_or-Some, option_or-None}
use Rattle.list_laws.proofs.Ranges.{map_same, flat_map_same}
use Rattle.block_builder.specs.declared.intake.Intake.{Intake}
use Rattle.block_builder.specs.Blocks.{Piece, Held, covers, piece_frame, tick_place}
use Rattle.block_builder.specs.Window.{IsShown, added, added_below, held_flags, is_fresh}
use Rattle.block_builder.proofs.Ranges.{part_replaced}

-- ---- what is shown

same_whole : (n : Intake) (o q : Option (List ℤ)) → o ≡ q → IfSome o (λ x. length x ≡ n.channels)
    → IfSome q (λ x. length x ≡ n.channels)
same_whole n o q e h = subst (λ (r : Option (List ℤ)). IfSome r (λ x. length x ≡ n.channels)) e h

pub IsShown-same : (n : Intake) (c d : Held) (s : List ℤ) (h : List Bool)
    → ((f : ℕ) → f < n.frames → c f ≡ d f) → IsShown n c s h → IsShown n d s h
IsShown-same n c d s h same shown =
    record {
      samples_are = shown.samples_are
          ∙ flat_map_same _ _ 0 n.frames
          (λ k le lt. ap (λ (o : Option (List ℤ)). unwrap_or o (replicate n.channels (pos 0)))
          (same k (omega (arith, lt))));
      flags_are = shown.flags_are ∙ map_same _ _ 0 n.frames
          (λ k le lt. ap is_some (same k (omega (arith, lt))));
      whole = λ f lt. same_whole n (c f) (d f) (same f lt) (shown.whole f lt);
    }

-- a flag
pub flag_is : (n : Intake) (c : Held) (h : List Bool) (k : ℕ) → k < n.frames → h ≡ held_flags n c
    → get_or h k false ≡ is_some (c k)
flag_is n c h k lt e = ap (λ (z : List Bool). get_or z k false) e
    ∙ get_or-map-range_with_len (λ f. is_some (c f)) 0 n.frames k k false lt (zero-add k)

-- what is held, with one frame replaced
abbrev pub put_at : ℕ → List ℤ → Held → Held
put_at i x c f = cond (nat_eq f i) (Some x) (c f)

put_here : (i : ℕ) (x : List ℤ) (c : Held) → put_at i x c i ≡ Some x
put_here i x c = rw (eq-eqb i i refl) refl

put_other : (i f : ℕ) (x : List ℤ) (c : Held) → f ≢ i → put_at i x c f ≡ c f
put_other i f x c ne = rw (ne_eqb f i ne) refl

long_part : (n : Intake) (o : Option (List ℤ)) → IfSome o (λ x. length x ≡ n.channels)
    → length (unwrap_or o (replicate n.channels (pos 0))) ≡ n.channels
long_part n None h = length-replicate n.channels (pos 0)
long_part n (Some x) h = h

whole_put : (n : Intake) (i f : ℕ) (x : List ℤ) (c : Held) (b : Bool) → length x ≡ n.channels
    → IfSome (c f) (λ y. length y ≡ n.channels)
    → IfSome (cond b (Some x) (c f)) (λ y. length y ≡ n.channels)
whole_put n i f x c true e h = e
whole_put n i f x c false e h = h

flag_at : (n : Intake) (c : Held) (h : List Bool) (i k : ℕ) (x : List ℤ) → i < n.frames
    → k < n.frames → h ≡ held_flags n c → (k ≡ i) ⊎ (k ≢ i)
    → get_or (set h i true) k false ≡ is_some (put_at i x c k)
flag_at n c h i k x il kl e (inl same) =
    let hl : length h ≡ n.frames = ap length e
    ∙ length-map-range_with_len (λ f. is_some (c f)) 0 n.frames in
    get_or-set_at h i k true false same (omega (arith, hl, il))
    ∙ sym (ap (λ (j : ℕ). is_some (put_at i x c j)) same ∙ ap is_some (put_here i x c))
flag_at n c h i k x il kl e (inr other) =
    get_or-set_other h i k true false other ∙ flag_is n c h k kl e
    ∙ ap is_some (sym (put_other i k x c other))

pub IsShown-put : (n : Intake) (c : Held) (s : List ℤ) (h : List Bool) (i : ℕ) (x : List ℤ)
    → i < n.frames → length x ≡ n.channels → IsShown n c s h
    → IsShown n (put_at i x c) (take (i * n.channels) s
    ++ (x ++ drop (i * n.channels + n.channels) s)) (set h i true)
IsShown-put n c s h i x lt e shown =
    let m = n.frames - i - 1 in
    let silence = replicate n.channels (pos 0) in
    let f = λ (k : ℕ). unwrap_or (c k) silence in
    let g = λ (k : ℕ). unwrap_or (put_at i x c k) silence in
    let fr : i + suc m ≡ n.frames = omega (arith, lt) in
    let part : take (i * n.channels) (flat_map f (range_with_len 0 (i + suc m)))
    ++ (x ++ drop (i * n.channels + n.channels) (flat_map f (range_with_len 0 (i + suc m))))
    ≡ flat_map g (range_with_len 0 (i + suc m)) =
    part_replaced f g n.channels i m x
    (λ k l. long_part n (c k) (shown.whole k (omega (arith, l, fr))))
    (λ k l. ap (λ (o : Option (List ℤ)). unwrap_or o silence)
    (sym (put_other i k x c (λ q. absurd (omega (arith, q, l))))))
    (λ k l l2. ap (λ (o : Option (List ℤ)). unwrap_or o silence)
    (sym (put_other i k x c (λ q. absurd (omega (arith, q, l))))))
    (ap (λ (o : Option (List ℤ)). unwrap_or o silence) (put_here i x c)) in
    record {
      samples_are =
          ap (λ (z : List ℤ). take (i * n.channels) z
          ++ (x ++ drop (i * n.channels + n.channels) z))
          (shown.samples_are ∙ ap (λ (k : ℕ). flat_map f (range_with_len 0 k)) (sym fr))
          ∙ part ∙ ap (λ (k : ℕ). flat_map g (range_with_len 0 k)) fr;
      flags_are = fill_by_all (λ k. is_some (put_at i x c k)) (set h i true) n.frames false
          (length-set h i true ∙ ap length shown.flags_are
          ∙ length-map-range_with_len (λ k. is_some (c k)) 0 n.frames)
          (λ k l. flag_at n c h i k x lt l shown.flags_are (cases_eq k i));
      whole = λ k l. whole_put n i k x c (nat_eq k i) e (shown.whole k l);
    }

-- ---- the frames of a packet, one by one

pub part_long : (n : Intake) (place : ℕ) (p : Piece) → length (piece_frame n place p) ≡ n.channels
part_long n place p = length-map-range_with_len _ 0 n.channels

below_is : (upto : ℕ) (n : Intake) (p : Piece) (tick : ℕ) (c : Held) (f : ℕ) → f < upto
    → added_below upto n p tick c f ≡ added n p tick c f
below_is upto n p tick c f lt = rw (lt-ltb f upto lt) refl

above_is : (upto : ℕ) (n : Intake) (p : Piece) (tick : ℕ) (c : Held) (f : ℕ) → upto ≤ f
    → added_below upto n p tick c f ≡ c f
above_is upto n p tick c f le = rw (le-ltb f upto le) refl

pub none_of : (o : Option (List ℤ)) → is_some o ≡ false → o ≡ None
none_of None h = refl
none_of (Some x) h = absurd cc

-- a frame that the packet does not cover stays
pub not_covered : (n : Intake) (p : Piece) (tick : ℕ) (c : Held) (f : ℕ)
    → covers (tick_place n tick + f) p ≡ false → added n p tick c f ≡ c f
not_covered n p tick c f h = ap
    (λ (b : Bool). option_or (c f) (cond b (Some (piece_frame n (tick_place n tick + f) p)) None)) h
    ∙ option_or-None (c f)

begins_at : (n : Intake) (p : Piece) (tick upto : ℕ) (c : Held) (f : ℕ)
    → ((g : ℕ) → g < upto → covers (tick_place n tick + g) p ≡ false)
    → (f < upto) ⊎ (upto ≤ f) → c f ≡ added_below upto n p tick c f
begins_at n p tick upto c f un (inl lt) =
    sym (below_is upto n p tick c f lt ∙ not_covered n p tick c f (un f lt))
begins_at n p tick upto c f un (inr le) = sym (above_is upto n p tick c f le)

ends_at : (n : Intake) (p : Piece) (tick upto : ℕ) (c : Held) (f : ℕ) → f < n.frames
    → ((g : ℕ) → upto ≤ g → g < n.frames → covers (tick_place n tick + g) p ≡ false)
    → (f < upto) ⊎ (upto ≤ f) → added_below upto n p tick c f ≡ added n p tick c f
ends_at n p tick upto c f fl un (inl lt) = below_is upto n p tick c f lt
ends_at n p tick upto c f fl un (inr le) = above_is upto n p tick c f le
    ∙ sym (not_covered n p tick c f (un f le fl))

keeps_at : (n : Intake) (p : Piece) (tick k : ℕ) (c : Held) (f : ℕ) → is_some (c k) ≡ true
    → (f < k) ⊎ (k ≤ f) → (f ≡ k) ⊎ (f ≢ k)
    → added_below k n p tick c f ≡ added_below (k + 1) n p tick c f
keeps_at n p tick k c f here (inl lt) e = below_is k n p tick c f lt
    ∙ sym (below_is (k + 1) n p tick c f (omega (arith, lt)))
keeps_at n p tick k c f here (inr le) (inl e) =
    above_is k n p tick c f le ∙ sym
    (option_or-Some (c f) _ (ap (λ (j : ℕ). is_some (c j)) e ∙ here))
    ∙ sym (below_is (k + 1) n p tick c f (omega (arith, e)))
keeps_at n p tick k c f here (inr le) (inr ne) =
    let more : k + 1 ≤ f = omega (arith, le, ne) in
    above_is k n p tick c f le ∙ sym (above_is (k + 1) n p tick c f more)

pub fresh_is : (n : Intake) (p : Piece) (tick k : ℕ) (c : Held) (x : List ℤ) → c k ≡ None
    → covers (tick_place n tick + k) p ≡ true → x ≡ piece_frame n (tick_place n tick + k) p
    → added n p tick c k ≡ Some x
fresh_is n p tick k c x here cov is =
    ap (λ (o : Option (List ℤ)). option_or o
    (cond (covers (tick_place n tick + k) p) (Some (piece_frame n (tick_place n tick + k) p)) None))
    here
    ∙ ap (λ (b : Bool). cond b (Some (piece_frame n (tick_place n tick + k) p)) None) cov
    ∙ ap Some (sym is)

takes_at : (n : Intake) (p : Piece) (tick k : ℕ) (c : Held) (x : List ℤ) (f : ℕ) → c k ≡ None
    → covers (tick_place n tick + k) p ≡ true → x ≡ piece_frame n (tick_place n tick + k) p
    → (f < k) ⊎ (k ≤ f) → (f ≡ k) ⊎ (f ≢ k)
    → put_at k x (added_below k n p tick c) f ≡ added_below (k + 1) n p tick c f
takes_at n p tick k c x f here cov is (inl lt) e =
    put_other k f x (added_below k n p tick c) (λ q. absurd (omega (arith, q, lt)))
    ∙ below_is k n p tick c f lt ∙ sym (below_is (k + 1) n p tick c f (omega (arith, lt)))
takes_at n p tick k c x f here cov is (inr le) (inl e) =
    ap (put_at k x (added_below k n p tick c)) e ∙ put_here k x (added_below k n p tick c)
    ∙ sym (fresh_is n p tick k c x here cov is)
    ∙ sym (below_is (k + 1) n p tick c k (omega arith))
    ∙ ap (added_below (k + 1) n p tick c) (sym e)
takes_at n p tick k c x f here cov is (inr le) (inr ne) =
    let more : k + 1 ≤ f = omega (arith, le, ne) in
    put_other k f x (added_below k n p tick c) ne ∙ above_is k n p tick c f le
    ∙ sym (above_is (k + 1) n p tick c f more)

-- before the first frame of the packet nothing was added
pub begins : (n : Intake) (p : Piece) (tick upto : ℕ) (c : Held) (s : List ℤ) (h : List Bool)
    → ((f : ℕ) → f < upto → covers (tick_place n tick + f) p ≡ false) → IsShown n c s h
    → IsShown n (added_below upto n p tick c) s h
begins n p tick upto c s h un shown =
    IsShown-same n c (added_below upto n p tick c) s h
    (λ f lt. begins_at n p tick upto c f un (cases_lt f upto)) shown

-- after its last frame nothing is left
pub ends : (n : Intake) (p : Piece) (tick upto : ℕ) (c : Held) (s : List ℤ) (h : List Bool)
    → ((f : ℕ) → upto ≤ f → f < n.frames → covers (tick_place n tick + f) p ≡ false)
    → IsShown n (added_below upto n p tick c) s h → IsShown n (added n p tick c) s h
ends n p tick upto c s h un shown =
    IsShown-same n (added_below upto n p tick c) (added n p tick c) s h
    (λ f lt. ends_at n p tick upto c f lt un (cases_lt f upto)) shown

-- a frame that holds something keeps it
pub keeps : (n : Intake) (p : Piece) (tick k : ℕ) (c : Held) (s : List ℤ) (h : List Bool)
    → k < n.frames → get_or h k false ≡ true → IsShown n (added_below k n p tick c) s h
    → IsShown n (added_below (k + 1) n p tick c) s h
keeps n p tick k c s h lt flag shown =
    let here : is_some (c k) ≡ true = ap is_some (sym (above_is k n p tick c k (omega arith)))
    ∙ sym (flag_is n (added_below k n p tick c) h k lt shown.flags_are) ∙ flag in
    IsShown-same n (added_below k n p tick c) (added_below (k + 1) n p tick c) s h
    (λ f l. keeps_at n p tick k c f here (cases_lt f k) (cases_eq f k)) shown

-- a frame that holds nothing takes the packet's
pub takes : (n : Intake) (p : Piece) (tick k : ℕ) (c : Held) (s : List ℤ) (h : List Bool)
    (x : List ℤ)
    → k < n.frames → get_or h k false ≡ false → covers (tick_place n tick + k) p ≡ true
    → x ≡ piece_frame n (tick_place n tick + k) p
    → IsShown n (added_below k n p tick c) s h
    → IsShown n (added_below (k + 1) n p tick c)
    (take (k * n.channels) s ++ (x ++ drop (k * n.channels + n.channels) s)) (set h k true)
takes n p tick k c s h x lt flag cov is shown =
    let here : c k ≡ None = none_of (c k)
    (ap is_some (sym (above_is k n p tick c k (omega arith)))
    ∙ sym (flag_is n (added_below k n p tick c) h k lt shown.flags_are) ∙ flag) in
    let put = IsShown-put n (added_below k n p tick c) s h k x lt
    (ap length is ∙ part_long n (tick_place n tick + k) p) shown in
    IsShown-same n (put_at k x (added_below k n p tick c)) (added_below (k + 1) n p tick c) _ _
    (λ f l. takes_at n p tick k c x f here cov is (cases_lt f k) (cases_eq f k)) put

-- ---- how many are new

pub fresh_false : (n : Intake) (p : Piece) (tick : ℕ) (c : Held) (f : ℕ)
    → covers (tick_place n tick + f) p ≡ false → is_fresh n p tick c f ≡ false
fresh_false n p tick c f h = ap (λ (b : Bool). b && not (is_some (c f))) h

pub fresh_kept : (n : Intake) (p : Piece) (tick k : ℕ) (c : Held) (s : List ℤ) (h : List Bool)
    → k < n.frames → get_or h k false ≡ true
    → IsShown n (added_below k n p tick c) s h → is_fresh n p tick c k ≡ false
fresh_kept n p tick k c s h lt flag shown =
    let here : is_some (c k) ≡ true = ap is_some (sym (above_is k n p tick c k (omega arith)))
    ∙ sym (flag_is n (added_below k n p tick c) h k lt shown.flags_are) ∙ flag in
    ap (λ (b : Bool). covers (tick_place n tick + k) p && not b) here
    ∙ and_right (covers (tick_place n tick + k) p) false refl

pub fresh_taken : (n : Intake) (p : Piece) (tick k : ℕ) (c : Held) (s : List ℤ) (h : List Bool)
    → k < n.frames → get_or h k false ≡ false
    → covers (tick_place n tick + k) p ≡ true → IsShown n (added_below k n p tick c) s h
    → is_fresh n p tick c k ≡ true
fresh_taken n p tick k c s h lt flag cov shown =
    let here : is_some (c k) ≡ false = ap is_some (sym (above_is k n p tick c k (omega arith)))
    ∙ sym (flag_is n (added_below k n p tick c) h k lt shown.flags_are) ∙ flag in
    ap (λ (b : Bool). covers (tick_place n tick + k) p && not b) here
    ∙ ap (λ (b : Bool). b && true) cov
