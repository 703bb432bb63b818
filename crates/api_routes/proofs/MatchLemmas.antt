-- What matchit finds is the row that takes the path.
use Rattle.std.proofs.Common.{◌≡◌, ℕ, zero, suc, ◌+◌, ◌-◌, ◌<◌, ◌≤◌, ◌⊎◌, Bool, true, false, cond}
use Rattle.std.proofs.Common.{◌&&◌, ◌||◌, ◌==◌, List, [], ◌∷◌, Option, Some, None, length, drop}
use Rattle.std.proofs.Common.{refl, sym, ap, ◌∙◌, subst, inl, inr, arith, true≢false, ◌++◌, take}
use Rattle.std.proofs.Common.{take-append-drop, length-append}
use Rattle.matchit.proofs.ParamLemmas.{drop-length}
use Rattle.std.proofs.Math.Seq.{drop-append_seam}
use Rattle.std.proofs.lemmas.Slice.Eq.{bytes_eq-Decides}
use Rattle.std.specs.Prelude.{nat_lt}
use Rattle.std.specs.List.{list_all}
use Rattle.std.proofs.lemmas.Bool.Decides.{nat_tests}
use Rattle.matchit.specs.Rows.{RowsOf}
use Rattle.matchit.specs.Seek.{seek, param_step, own, step, or_else, segment, has_slash}
use Rattle.matchit.specs.Seek.{longest_suffix, longest_from, with_suffix, cuts}
use Rattle.api_routes.specs.Match.{from_slash, is_empty, begins, takes, hit}

-- ---- rows that are looked up so

-- two patterns part only at bytes
abbrev pub fits : List ℕ → List ℕ → Bool
fits [] [] = true
fits [] (y ∷ q) = nat_lt y 256
fits (x ∷ p) [] = nat_lt x 256
fits (x ∷ p) (y ∷ q) = cond (x == y) (fits p q) (nat_lt x 256 && nat_lt y 256)

-- a parameter stands for a whole part, and there is no catch-all
abbrev pub is_shaped : List ℕ → Bool
is_shaped [] = true
is_shaped (x ∷ p) =
    nat_lt x 257 && (cond (x == 256) (is_empty p || begins 47 p) true && is_shaped p)

-- the pattern is that of a row
abbrev pub IsIn : {K : Type 0} → List ℕ → RowsOf K → Type 0
IsIn p [] = ⊥
IsIn p ((q, key) ∷ rows) = (p ≡ q) ⊎ IsIn p rows

-- such rows
pub record IsGood {K : Type 0} (rows : RowsOf K) : Type 0 where
  pub fit : (p q : List ℕ) → IsIn p rows → IsIn q rows → fits p q ≡ true
  pub shaped : (p : List ℕ) → IsIn p rows → is_shaped p ≡ true

-- the same as tests
abbrev pub all_fit : {K : Type 0} → RowsOf K → Bool
all_fit rows = list_all (λ r. is_shaped r.0 && list_all (λ s. fits r.0 s.0) rows) rows

-- ---- numbers and tokens

differ : (x y : ℕ) → (x ≡ y → ⊥) → (x == y) ≡ false
differ x y other = grind (arith, nat_tests, other)

no_take : (x : ℕ) (t : List ℕ) → takes (x ∷ t) [] ≡ false
no_take x t = go (x == 256)
  where
    go : (b : Bool) → cond b (false && takes t []) (false && takes t []) ≡ false
    go true = refl
    go false = refl

abbrev pub Tail : List ℕ → Type 0
Tail [] = Unit {0}
Tail (y ∷ t) = y ≡ 47

-- ---- texts and their first slash

is_byte : (b c : ℕ) (same : Bool) → (b == c) ≡ same → same ≡ true → b ≡ c
is_byte b c same e is = grind (arith, nat_tests)

pub record Split (path : List ℕ) : Type 0 where
  pub front : List ℕ
  pub rest : List ℕ
  pub from : from_slash path ≡ 47 ∷ rest
  pub whole : path ≡ front ++ 47 ∷ rest
  pub seg : segment path ≡ front ++ 47 ∷ []

split_at : (b : ℕ) (path : List ℕ) (same : Bool) → (b == 47) ≡ same
    → (has_slash path ≡ true → Split path)
    → cond same true (has_slash path) ≡ true → Split (b ∷ path)
split_at b path true is go h =
    let byte : b ≡ 47 = is_byte b 47 true is refl in
    record {
      front = [];
      rest = path;
      from = rw byte refl;
      whole = rw byte refl;
      seg = rw byte refl;
    }
split_at b path false is go h =
    let more = go h in
    record {
      front = b ∷ more.front;
      rest = more.rest;
      from = rw is more.from;
      whole = ap (λ s. b ∷ s) more.whole;
      seg =
          rw is (ap (λ s. b ∷ s) more.seg);
    }

pub split : (path : List ℕ) → has_slash path ≡ true → Split path
split [] h = absurd (true≢false (sym h))
split (b ∷ path) h = split_at b path (b == 47) refl (split path) h

or_true : (same found : Bool) → found ≡ true → cond same true found ≡ true
or_true true found h = refl
or_true false found h = h

slash_within : (x y : List ℕ) → has_slash (x ++ 47 ∷ y) ≡ true
slash_within [] y = refl
slash_within (b ∷ x) y = or_true (b == 47) _ (slash_within x y)

no_split_at : (b : ℕ) (path : List ℕ) (same : Bool) → (b == 47) ≡ same
    → (has_slash path ≡ false → (segment path ≡ path) × (from_slash path ≡ []))
    → cond same true (has_slash path) ≡ false
    → (segment (b ∷ path) ≡ b ∷ path) × (from_slash (b ∷ path) ≡ [])
no_split_at b path true is go h = absurd (true≢false h)
no_split_at b path false is go h = let more = go h in (rw (is, more.0), rw (is, more.1))

pub no_split : (path : List ℕ) → has_slash path ≡ false
    → (segment path ≡ path) × (from_slash path ≡ [])
no_split [] h = (refl, refl)
no_split (b ∷ path) h = no_split_at b path (b == 47) refl (no_split path) h

pub cuts_split : (b : ℕ) (front : List ℕ) → cuts (b ∷ (front ++ 47 ∷ [])) (47 ∷ []) ≡ true
cuts_split b front =
    let n : length (front ++ 47 ∷ []) ≡ length front + 1 = length-append front (47 ∷ []) in
    let at : length (b ∷ (front ++ 47 ∷ [])) - 1 ≡ length (b ∷ front) = omega arith in
    let last : drop (length (b ∷ (front ++ 47 ∷ [])) - 1) (b ∷ (front ++ 47 ∷ [])) ≡ 47 ∷ [] =
    ap (λ (k : ℕ). drop k (b ∷ (front ++ 47 ∷ []))) at ∙ drop-append_seam (b ∷ front) (47 ∷ []) in
    let long : nat_lt 1 (length (b ∷ (front ++ 47 ∷ []))) ≡ true = grind (arith, nat_tests) in
    rw (last, long)

and_parts : (a b : Bool) → (a && b) ≡ true → (a ≡ true) × (b ≡ true)
and_parts true b h = (refl, h)
and_parts false b h = absurd (true≢false (sym h))

not_true : (b : Bool) → (b ≡ true → ⊥) → b ≡ false
not_true true h = absurd (h refl)
not_true false h = refl

pub cuts_none : (path : List ℕ) → has_slash path ≡ false → cuts path (47 ∷ []) ≡ false
cuts_none path h = not_true _ (λ cut.
    let at = drop (length path - 1) path in
    let last : 47 ∷ [] ≡ at = (bytes_eq-Decides (47 ∷ []) at).0 (and_parts _ _ cut).1 in
    let whole : path ≡ take (length path - 1) path ++ 47 ∷ [] =
    sym (take-append-drop (length path - 1) path)
    ∙ ap (λ (x : List ℕ). take (length path - 1) path ++ x) (sym last) in
    true≢false (sym (slash_within (take (length path - 1) path) []) ∙ ap has_slash (sym whole) ∙ h))

bytes_behind : (x y : List ℕ) → list_all (λ b. nat_lt b 256) (x ++ y) ≡ true
    → list_all (λ b. nat_lt b 256) y ≡ true
bytes_behind [] y h = h
bytes_behind (b ∷ x) y h = bytes_behind x y (and_parts _ _ h).1

abbrev HeadByte : List ℕ → Type 0
HeadByte [] = Unit {0}
HeadByte (x ∷ t) = x < 256

is_below : (y n : ℕ) → nat_lt y n ≡ true → y < n
is_below y n h = grind (arith, nat_tests)

not_token : (x : ℕ) → nat_lt x 257 ≡ true → (x == 256) ≡ false → x < 256
not_token x h is = grind (arith, nat_tests)

head_byte_at : (x y : ℕ) (t u : List ℕ) (same : Bool) → (x == y) ≡ same → x < 256
    → cond same (fits t u) (nat_lt x 256 && nat_lt y 256) ≡ true → y < 256
head_byte_at x y t u true is below h = let byte : x ≡ y = is_byte x y true is refl in omega arith
head_byte_at x y t u false is below h = is_below y 256 (and_parts _ _ h).1

head_byte : (p : List ℕ) (y : ℕ) (u : List ℕ) → HeadByte p → fits p (y ∷ u) ≡ true → y < 256
head_byte [] y u byte h = is_below y 256 h
head_byte (x ∷ t) y u byte h = head_byte_at x y t u (x == y) refl byte h

head_param : (t : List ℕ) (y : ℕ) (u : List ℕ) (same : Bool) → (256 == y) ≡ same
    → cond same (fits t u) (nat_lt 256 256 && nat_lt y 256) ≡ true → y ≡ 256
head_param t y u true is h = sym (is_byte 256 y true is refl)
head_param t y u false is h = absurd (true≢false (sym h))

tail_is : (u : List ℕ) → (is_empty u || begins 47 u) ≡ true → Tail u
tail_is [] h = tt
tail_is (y ∷ u) h = sym (is_byte 47 y _ refl h)

tail_of : (y : ℕ) (u : List ℕ) → y ≡ 256 → is_shaped (y ∷ u) ≡ true → Tail u
tail_of y u token h = let g : is_shaped (256 ∷ u) ≡ true =
    subst (λ (x : ℕ). is_shaped (x ∷ u) ≡ true) token h in
    tail_is u (and_parts (is_empty u || begins 47 u) (is_shaped u) g).0

fits_inside : (b : ℕ) (p q : List ℕ) → fits (b ∷ p) (b ∷ q) ≡ true → fits p q ≡ true
fits_inside b p q h = let same : (b == b) ≡ true = grind (arith, nat_tests) in rw same at h

shaped_inside : (b : ℕ) (p : List ℕ) → is_shaped (b ∷ p) ≡ true → is_shaped p ≡ true
shaped_inside b p h = (and_parts _ _ (and_parts _ _ h).1).1

module _ {K : Type 0} where
  nothing : (p : List ℕ) → (param_step {K = K} [] p).1 ≡ []
  unfolding param_step
  nothing p = go (has_slash p)
    where
      go : (b : Bool) → (let r : ℕ × RowsOf K = cond b (0, []) (length p, []) in r.1) ≡ []
      go true = refl
      go false = refl

  or_none : (a : Option K) → or_else a None ≡ a
  or_none None = refl
  or_none (Some k) = refl

  pub seek_none : (skip : ℕ) (path : List ℕ) → seek {K = K} skip [] path ≡ None
  unfolding seek
  seek_none skip [] = refl
  seek_none (suc skip) (b ∷ path) = seek_none skip path
  seek_none zero (b ∷ path) =
      rw (
        seek_none 0 path,
        nothing (b ∷ path),
        seek_none ((param_step {K = K} [] (b ∷ path)).0 - 1) path,
      )

  pub seek_skip : (skip : ℕ) (rs : RowsOf K) (path : List ℕ)
      → seek skip rs path ≡ seek 0 rs (drop skip path)
  unfolding seek
  seek_skip zero rs path = refl
  seek_skip (suc skip) rs [] = refl
  seek_skip (suc skip) rs (b ∷ path) = seek_skip skip rs path

  -- ---- the end of the path

  pub own_hit : (rs : RowsOf K) → own rs ≡ hit rs []
  own_hit [] = refl
  own_hit (([], key) ∷ rs) = refl
  own_hit ((x ∷ t, key) ∷ rs) = rw (no_take x t) (own_hit rs)

  pub at_end : (rs : RowsOf K) → seek 0 rs [] ≡ own rs
  unfolding seek
  at_end rs = refl

  -- ---- rows that begin with bytes

  abbrev pub Bytes : RowsOf K → Type 0
  Bytes [] = Unit {0}
  Bytes (([], key) ∷ rs) = Bytes rs
  Bytes ((x ∷ t, key) ∷ rs) = (x < 256) × Bytes rs

  pub no_step : (token : ℕ) (rs : RowsOf K) → 256 ≤ token → Bytes rs → step token rs ≡ []
  no_step token [] h bytes = refl
  no_step token (([], key) ∷ rs) h bytes = no_step token rs h bytes
  no_step token ((x ∷ t, key) ∷ rs) h bytes =
      let other : (x == token) ≡ false = grind (arith, nat_tests, bytes.0) in
      rw other (no_step token rs h bytes.1)

  pub hit_byte : (b : ℕ) (path : List ℕ) (rs : RowsOf K) → Bytes rs
      → hit rs (b ∷ path) ≡ hit (step b rs) path
  hit_byte b path [] bytes = refl
  hit_byte b path (([], key) ∷ rs) bytes = hit_byte b path rs bytes
  hit_byte b path ((x ∷ t, key) ∷ rs) bytes =
      let byte : (x == 256) ≡ false = grind (arith, nat_tests, bytes.0) in
      rw byte (go (x == b) (hit_byte b path rs bytes.1))
    where
      go : (same : Bool) → hit rs (b ∷ path) ≡ hit (step b rs) path
          → cond (same && takes t path) (Some key) (hit rs (b ∷ path))
          ≡ hit (cond same ((t, key) ∷ step b rs) (step b rs)) path
      go true h = ap (λ o. cond (takes t path) (Some key) o) h
      go false h = h

  -- ---- rows that begin with a parameter

  abbrev pub Params : RowsOf K → Type 0
  Params [] = Unit {0}
  Params (([], key) ∷ rs) = ⊥
  Params ((x ∷ t, key) ∷ rs) = (x ≡ 256) × Tail t × Params rs

  abbrev pub Tails : RowsOf K → Type 0
  Tails [] = Unit {0}
  Tails ((t, key) ∷ rs) = Tail t × Tails rs

  pub other_step : (token : ℕ) (rs : RowsOf K) → (256 ≡ token → ⊥) → Params rs → step token rs ≡ []
  other_step token [] other params = refl
  other_step token (([], key) ∷ rs) other params = absurd params
  other_step token ((x ∷ t, key) ∷ rs) other params =
      let apart : (x == token) ≡ false = rw params.0 (differ 256 token other) in
      rw apart (other_step token rs other params.2)

  pub tails : (rs : RowsOf K) → Params rs → Tails (step 256 rs)
  tails [] params = tt
  tails (([], key) ∷ rs) params = absurd params
  tails ((x ∷ t, key) ∷ rs) params = rw params.0 (params.1, tails rs params.2)

  pub own_params : (rs : RowsOf K) → Params rs → own rs ≡ None
  own_params [] params = refl
  own_params (([], key) ∷ rs) params = absurd params
  own_params ((x ∷ t, key) ∷ rs) params = own_params rs params.2

  -- an empty part is not taken
  pub hit_slash : (path : List ℕ) (rs : RowsOf K) → Params rs → hit rs (47 ∷ path) ≡ None
  hit_slash path [] params = refl
  hit_slash path (([], key) ∷ rs) params = absurd params
  hit_slash path ((x ∷ t, key) ∷ rs) params = rw params.0 (hit_slash path rs params.2)

  pub hit_part : (b : ℕ) (path : List ℕ) (rs : RowsOf K) → (b == 47) ≡ false → Params rs
      → hit rs (b ∷ path) ≡ hit (step 256 rs) (from_slash path)
  hit_part b path [] part params = refl
  hit_part b path (([], key) ∷ rs) part params = absurd params
  hit_part b path ((x ∷ t, key) ∷ rs) part params =
      rw (params.0, part, hit_part b path rs part params.2)

  -- what stays of the rows at the slash
  pub hit_suffix : (rest : List ℕ) (rs : RowsOf K) → Tails rs
      → hit rs (47 ∷ rest) ≡ hit (with_suffix (47 ∷ []) rs) (47 ∷ rest)
  hit_suffix rest [] tails = refl
  hit_suffix rest (([], key) ∷ rs) tails = hit_suffix rest rs tails.1
  hit_suffix rest ((y ∷ t, key) ∷ rs) tails = rw (tails.0, hit_suffix rest rs tails.1)

  -- ---- the longest suffix

  abbrev pub has_tail : RowsOf K → Bool
  has_tail [] = false
  has_tail (([], key) ∷ rs) = has_tail rs
  has_tail ((y ∷ t, key) ∷ rs) = true

  pub longest_stays : (seg : List ℕ) (rs : RowsOf K) → Tails rs
      → longest_from seg (47 ∷ []) rs ≡ 47 ∷ []
  longest_stays seg [] tails = refl
  longest_stays seg (([], key) ∷ rs) tails = longest_stays seg rs tails.1
  longest_stays seg ((y ∷ t, key) ∷ rs) tails = rw tails.0 (longest_stays seg rs tails.1)

  pub longest_cut : (seg : List ℕ) (rs : RowsOf K) → cuts seg (47 ∷ []) ≡ true → Tails rs
      → longest_from seg [] rs ≡ cond (has_tail rs) (47 ∷ []) []
  longest_cut seg [] cut tails = refl
  longest_cut seg (([], key) ∷ rs) cut tails = longest_cut seg rs cut tails.1
  longest_cut seg ((y ∷ t, key) ∷ rs) cut tails = rw (tails.0, cut) (longest_stays seg rs tails.1)

  pub longest_none : (seg : List ℕ) (rs : RowsOf K) → cuts seg (47 ∷ []) ≡ false → Tails rs
      → longest_from seg [] rs ≡ []
  longest_none seg [] cut tails = refl
  longest_none seg (([], key) ∷ rs) cut tails = longest_none seg rs cut tails.1
  longest_none seg ((y ∷ t, key) ∷ rs) cut tails =
      rw (tails.0, cut) (longest_none seg rs cut tails.1)

  -- with no tail nothing goes on at a slash
  pub hit_no_tail : (rest : List ℕ) (rs : RowsOf K) → has_tail rs ≡ false
      → hit rs (47 ∷ rest) ≡ None
  hit_no_tail rest [] h = refl
  hit_no_tail rest (([], key) ∷ rs) h = hit_no_tail rest rs h
  hit_no_tail rest ((y ∷ t, key) ∷ rs) h = absurd (true≢false h)

  -- ---- which rows are good

  in_step_at : (b x : ℕ) (t u : List ℕ) (key : K) (rs : RowsOf K) (same : Bool) → (x == b) ≡ same
      → (IsIn t (step b rs) → IsIn (b ∷ t) rs)
      → IsIn t (cond same ((u, key) ∷ step b rs) (step b rs)) → (b ∷ t ≡ x ∷ u) ⊎ IsIn (b ∷ t) rs
  in_step_at b x t u key rs true is go (inl e) =
      let byte : x ≡ b = is_byte x b true is refl in inl (rw byte (ap (λ s. b ∷ s) e))
  in_step_at b x t u key rs true is go (inr i) = inr (go i)
  in_step_at b x t u key rs false is go i = inr (go i)

  in_step : (b : ℕ) (t : List ℕ) (rs : RowsOf K) → IsIn t (step b rs) → IsIn (b ∷ t) rs
  in_step b t [] i = i
  in_step b t (([], key) ∷ rs) i = inr (in_step b t rs i)
  in_step b t ((x ∷ u, key) ∷ rs) i = in_step_at b x t u key rs (x == b) refl (in_step b t rs) i

  in_suffix_at : (t u s : List ℕ) (key : K) (rs : RowsOf K) (same : Bool)
      → (IsIn t (with_suffix s rs) → IsIn t rs)
      → IsIn t (cond same ((u, key) ∷ with_suffix s rs) (with_suffix s rs)) → (t ≡ u) ⊎ IsIn t rs
  in_suffix_at t u s key rs true go (inl e) = inl e
  in_suffix_at t u s key rs true go (inr i) = inr (go i)
  in_suffix_at t u s key rs false go i = inr (go i)

  in_suffix : (s t : List ℕ) (rs : RowsOf K) → IsIn t (with_suffix s rs) → IsIn t rs
  in_suffix s t [] i = i
  in_suffix s t ((u, key) ∷ rs) i = in_suffix_at t u s key rs _ (in_suffix s t rs) i

  good_step : (b : ℕ) (rs : RowsOf K) → IsGood rs → IsGood (step b rs)
  good_step b rs good = record {
    fit =
        λ p q i j. fits_inside b p q
        (good.fit (b ∷ p) (b ∷ q) (in_step b p rs i) (in_step b q rs j));
    shaped = λ p i. shaped_inside b p (good.shaped (b ∷ p) (in_step b p rs i));
  }

  good_suffix : (s : List ℕ) (rs : RowsOf K) → IsGood rs → IsGood (with_suffix s rs)
  good_suffix s rs good = record {
    fit = λ p q i j. good.fit p q (in_suffix s p rs i) (in_suffix s q rs j);
    shaped = λ p i. good.shaped p (in_suffix s p rs i);
  }

  bytes_after : (p : List ℕ) (rs : RowsOf K) → HeadByte p
      → ((q : List ℕ) → IsIn q rs → fits p q ≡ true) → Bytes rs
  bytes_after p [] byte fit = tt
  bytes_after p (([], key) ∷ rs) byte fit = bytes_after p rs byte (λ q i. fit q (inr i))
  bytes_after p ((y ∷ u, key) ∷ rs) byte fit =
      (head_byte p y u byte (fit (y ∷ u) (inl refl)), bytes_after p rs byte (λ q i. fit q (inr i)))

  params_after : (t : List ℕ) (rs : RowsOf K) → ((q : List ℕ) → IsIn q rs → fits (256 ∷ t) q ≡ true)
      → ((q : List ℕ) → IsIn q rs → is_shaped q ≡ true) → Params rs
  params_after t [] fit shaped = tt
  params_after t (([], key) ∷ rs) fit shaped = absurd (true≢false (sym (fit [] (inl refl))))
  params_after t ((y ∷ u, key) ∷ rs) fit shaped =
      let token = head_param t y u (256 == y) refl (fit (y ∷ u) (inl refl)) in (
        token,
        tail_of y u token (shaped (y ∷ u) (inl refl)),
        params_after t rs
            (λ q i. fit q (inr i)) (λ q i. shaped q (inr i)),
      )

  kind_at : (x : ℕ) (t : List ℕ) (key : K) (rs : RowsOf K) (same : Bool) → (x == 256) ≡ same
      → IsGood ((x ∷ t, key) ∷ rs)
      → Bytes ((x ∷ t, key) ∷ rs) ⊎ Params ((x ∷ t, key) ∷ rs)
  kind_at x t key rs true is good =
      let token = is_byte x 256 true is refl in
      inr (
        token,
        tail_of x t token (good.shaped (x ∷ t) (inl refl)),
        params_after t rs (λ q i. subst (λ (y : ℕ). fits (y ∷ t) q ≡ true) token
            (good.fit (x ∷ t) q (inl refl) (inr i)))
            (λ q i. good.shaped q (inr i)),
      )
  kind_at x t key rs false is good =
      let below : x < 256 = not_token x (and_parts _ _ (good.shaped (x ∷ t) (inl refl))).0 is in
      inl (below, bytes_after (x ∷ t) rs below (λ q i. good.fit (x ∷ t) q (inl refl) (inr i)))

  kind : (rs : RowsOf K) → IsGood rs → Bytes rs ⊎ Params rs
  kind [] good = inl tt
  kind (([], key) ∷ rs) good = inl (bytes_after [] rs tt (λ q i. good.fit [] q (inl refl) (inr i)))
  kind ((x ∷ t, key) ∷ rs) good = kind_at x t key rs (x == 256) refl good

  -- ---- the theorem

  param_is : (ps : RowsOf K) (p l : List ℕ) (slash : Bool) → longest_suffix (segment p) ps ≡ l
      → has_slash p ≡ slash
      → param_step ps p ≡ cond (nat_lt 0 (length l))
      (length (segment p) - length l, with_suffix l ps) (cond slash (0, []) (length p, ps))
  unfolding param_step
  param_is ps p l slash e f = rw (e, f)

  abbrev After : ℕ × RowsOf K → List ℕ → Option K
  After r path = seek (r.0 - 1) r.1 path

  -- a part that ends at a slash
  at_slash : (b : ℕ) (path : List ℕ) (ps : RowsOf K) (sp : Split path) (some : Bool)
      → has_tail ps ≡ some → Tails ps
      → list_all (λ x. nat_lt x 256) path ≡ true
      → ((rest : List ℕ) → length rest ≤ length path → list_all (λ x. nat_lt x 256) rest ≡ true
      → seek 0 (with_suffix (47 ∷ []) ps) rest ≡ hit (with_suffix (47 ∷ []) ps) rest)
      → After (cond (nat_lt 0 (length (cond {A = List ℕ} some (47 ∷ []) []))) (
        length (b ∷ (sp.front ++ 47 ∷ [])) - length (cond {A =
            List ℕ} some (47 ∷ []) []),
        with_suffix (cond {A = List ℕ} some (47 ∷ []) []) ps,
      ) (0, [])) path ≡ hit ps (47 ∷ sp.rest)
  at_slash b path ps sp true is ts bytes go =
      let n : length (b ∷ (sp.front ++ 47 ∷ [])) - 1 - 1 ≡ length sp.front =
      omega (arith, length-append sp.front (47 ∷ [])) in
      let cut : drop (length (b ∷ (sp.front ++ 47 ∷ [])) - 1 - 1) path ≡ 47 ∷ sp.rest =
      ap (λ (k : ℕ). drop k path) n ∙ ap (drop (length sp.front)) sp.whole
      ∙ drop-append_seam sp.front (47 ∷ sp.rest) in
      let shorter : length (47 ∷ sp.rest) ≤ length path =
      omega (arith, ap length sp.whole, length-append sp.front (47 ∷ sp.rest)) in
      seek_skip _ (with_suffix (47 ∷ []) ps) path ∙ ap (seek 0 (with_suffix (47 ∷ []) ps)) cut
      ∙ go (47 ∷ sp.rest) shorter
      (bytes_behind sp.front (47 ∷ sp.rest)
      (ap (list_all (λ x. nat_lt x 256)) (sym sp.whole) ∙ bytes))
      ∙ sym (hit_suffix sp.rest ps ts)
  at_slash b path ps sp false is ts bytes go = seek_none 0 path ∙ sym (hit_no_tail sp.rest ps is)

  part_at : (b : ℕ) (path : List ℕ) (rs : RowsOf K) (slash : Bool) → has_slash path ≡ slash
      → (b == 47) ≡ false → Params rs
      → list_all (λ x. nat_lt x 256) path ≡ true
      → ((rest : List ℕ) → length rest ≤ length path → list_all (λ x. nat_lt x 256) rest ≡ true
      → seek 0 (with_suffix (47 ∷ []) (step 256 rs)) rest
      ≡ hit (with_suffix (47 ∷ []) (step 256 rs)) rest)
      → After (param_step (step 256 rs) (b ∷ path)) path ≡ hit rs (b ∷ path)
  part_at b path rs true has part params bytes go =
      let ps = step 256 rs in
      let ts = tails rs params in
      let sp = split path has in
      let seg : segment (b ∷ path) ≡ b ∷ (sp.front ++ 47 ∷ []) = rw part (ap (λ s. b ∷ s) sp.seg) in
      let long : longest_suffix (segment (b ∷ path)) ps ≡ cond (has_tail ps) (47 ∷ []) [] =
      rw seg (longest_cut (b ∷ (sp.front ++ 47 ∷ [])) ps (cuts_split b sp.front) ts) in
      let slash : has_slash (b ∷ path) ≡ true = rw (part, has) in
      ap (λ r. After r path) (param_is ps (b ∷ path) _ true long slash)
      ∙ rw seg (at_slash b path ps sp (has_tail ps) refl ts bytes go)
      ∙ ap (hit ps) (sym sp.from) ∙ sym (hit_part b path rs part params)
  part_at b path rs false has part params bytes go =
      let ps = step 256 rs in
      let ts = tails rs params in
      let none = no_split path has in
      let slash : has_slash (b ∷ path) ≡ false = rw (part, has) in
      let seg : segment (b ∷ path) ≡ b ∷ path = rw (part, none.0) in
      let long : longest_suffix (segment (b ∷ path)) ps ≡ [] =
      rw seg (longest_none (b ∷ path) ps (cuts_none (b ∷ path) slash) ts) in
      let end : drop (length (b ∷ path) - 1) path ≡ [] =
      ap (λ (k : ℕ). drop k path) (let e : length (b ∷ path) - 1 ≡ length path = omega arith in e)
      ∙ drop-length path in
      ap (λ r. After r path) (param_is ps (b ∷ path) [] false long slash)
      ∙ seek_skip (length (b ∷ path) - 1) ps path ∙ ap (seek 0 ps) end ∙ at_end ps ∙ own_hit ps
      ∙ ap (hit ps) (sym none.1) ∙ sym (hit_part b path rs part params)

  slash_at : (path : List ℕ) (rs : RowsOf K) → Params rs
      → After (param_step (step 256 rs) (47 ∷ path)) path ≡ hit rs (47 ∷ path)
  slash_at path rs params =
      let ps = step 256 rs in
      ap (λ r. After r path)
      (param_is ps (47 ∷ path) [] true (longest_none (47 ∷ []) ps refl (tails rs params)) refl)
      ∙ seek_none 0 path ∙ sym (hit_slash path rs params)

  any_at : (b : ℕ) (path : List ℕ) (rs : RowsOf K) (same : Bool) → (b == 47) ≡ same → Params rs
      → list_all (λ x. nat_lt x 256) path ≡ true
      → ((rest : List ℕ) → length rest ≤ length path → list_all (λ x. nat_lt x 256) rest ≡ true
      → seek 0 (with_suffix (47 ∷ []) (step 256 rs)) rest
      ≡ hit (with_suffix (47 ∷ []) (step 256 rs)) rest)
      → After (param_step (step 256 rs) (b ∷ path)) path ≡ hit rs (b ∷ path)
  any_at b path rs true is params bytes go =
      let byte : b ≡ 47 = is_byte b 47 true is refl in rw byte (slash_at path rs params)
  any_at b path rs false is params bytes go =
      part_at b path rs (has_slash path) refl is params bytes go

  -- at a node of bytes, and at a node of parameters
  one_step : (b : ℕ) (path : List ℕ) (rs : RowsOf K) → b < 256
      → list_all (λ x. nat_lt x 256) path ≡ true → Bytes rs ⊎ Params rs
      → seek 0 (step b rs) path ≡ hit (step b rs) path
      → ((rest : List ℕ) → length rest ≤ length path → list_all (λ x. nat_lt x 256) rest ≡ true
      → seek 0 (with_suffix (47 ∷ []) (step 256 rs)) rest
      ≡ hit (with_suffix (47 ∷ []) (step 256 rs)) rest)
      → or_else (seek 0 (step b rs) path)
      (or_else (After (param_step (step 256 rs) (b ∷ path)) path) (own (step 257 rs)))
      ≡ hit rs (b ∷ path)
  one_step b path rs below small (inl bytes) first more =
      let none : After (param_step (step 256 rs) (b ∷ path)) path ≡ None =
      ap (λ ps. After (param_step ps (b ∷ path)) path) (no_step 256 rs (omega arith) bytes)
      ∙ ap (λ ps. seek ((param_step {K = K} [] (b ∷ path)).0 - 1) ps path) (nothing (b ∷ path))
      ∙ seek_none _ path in
      let catch : own (step 257 rs) ≡ None = ap own (no_step 257 rs (omega arith) bytes) in
      rw (none, catch) (or_none _ ∙ first ∙ sym (hit_byte b path rs bytes))
  one_step b path rs below small (inr params) first more =
      let gone : seek 0 (step b rs) path ≡ None =
      ap (λ r. seek 0 r path) (other_step b rs (λ e. omega arith) params) ∙ seek_none 0 path in
      let catch : own (step 257 rs) ≡ None = ap own (other_step 257 rs (λ e. omega arith) params) in
      rw (gone, catch) (or_none _ ∙ any_at b path rs (b == 47) refl params small more)

  pub seek_hit : (n : ℕ) (rs : RowsOf K) (path : List ℕ) → length path ≤ n → IsGood rs
      → list_all (λ b. nat_lt b 256) path ≡ true
      → seek 0 rs path ≡ hit rs path
  unfolding seek
  seek_hit n rs [] h good bytes = own_hit rs
  seek_hit zero rs (b ∷ path) h good bytes = absurd (omega arith)
  seek_hit (suc n) rs (b ∷ path) h good bytes =
      one_step b path rs (is_below b 256 (and_parts _ _ bytes).0) (and_parts _ _ bytes).1
      (kind rs good)
      (seek_hit n (step b rs) path (omega arith) (good_step b rs good) (and_parts _ _ bytes).1)
      (λ rest shorter small. seek_hit n (with_suffix (47 ∷ []) (step 256 rs)) rest (omega arith)
      (good_suffix (47 ∷ []) (step 256 rs) (good_step 256 rs good)) small)
