-- The rows of a packet, read piece by piece.
use Rattle.std.proofs.Common.{◌≡◌, ℕ, ◌+◌, ◌*◌, ◌<◌, ◌≤◌, true, List, [], ◌∷◌, ◌++◌, Some, refl}
use Rattle.std.proofs.Common.{length, sym, ap, ◌∙◌, subst, arith, append_assoc, inl, inr}
use Rattle.std.proofs.Common.{length-append}
use Rattle.std.specs.Prelude.{All}
use Rattle.std.proofs.lemmas.Bool.{cases_lt}
use Rattle.std.proofs.lemmas.List.Elements.{All-nil, All-push, All-weaker}
use Rattle.list_laws.proofs.Parts.{part_within}
use Rattle.map_entry.specs.declared.cell.Cell.{Cell}
use Rattle.map_entry.specs.Entry.{selected}
use Rattle.map_entry.specs.Row.{IsRowOf, channels_of_output}
use Rattle.map_entry.specs.Tick.{frame_key}
use Rattle.claim_rule.specs.Claims.{IsSound}
use Rattle.claim_word.specs.declared.worker.Claim.{Claim}
use Rattle.claim_word.specs.Claims.{IsFrugal, IsLast, pieced_on, read_on}
use Rattle.claim_word.specs.Faces.{IsPassOf, PassFace, TableFace}
use Rattle.claim_word.specs.Lending.{IsPieced}
use Rattle.packet_worker.specs.Gathering.{IsReadFor}
use Rattle.packet_worker.specs.Rows.{AreRowsOf, IsPieceAdded, RowUpto, RowsFace, begins_piece}
use Rattle.packet_worker.specs.Rows.{pieces_in, row_in}
use Rattle.packet_worker.proofs.Pieces.{begins_after, count_more, row_here, row_past}

-- the pass with more loads, of heads and of rows for pieces
abbrev pub read_for : PassFace → ℕ → ℕ → PassFace
read_for p heads words = record p { view = pieced_on (read_on p.view heads) words }

-- the claim's rows were read up to a frame
pub record IsReadUpto (p q : PassFace) (c : Claim) (frame : ℕ) (rows : RowsFace) : Type 0 where
  pub heads : ℕ
  pub words : ℕ
  pub few : words
      ≤ pieces_in p.view.entries c.output c.tick frame
      * channels_of_output p.view.plan.setup.device c.output
  pub pass : q ≡ read_for p heads words
  pub begins : frame < p.view.plan.setup.device.rate.frames
      → begins_piece p.view.entries c.output c.tick frame ≡ true
  pub frugal : 0 < frame → IsFrugal q.view
  pub sound : 0 < frame → IsSound p.view.plan
  pub channels : rows.channels ≡ channels_of_output p.view.plan.setup.device c.output
  pub count : length rows.pieces ≤ frame
  pub past : All (λ r. r.upto ≤ frame) rows.pieces
  pub stays : (f : ℕ) → f < frame → (more : List RowUpto)
      → row_in (rows.pieces ++ more) f ≡ row_in rows.pieces f
  pub selects : (f : ℕ) → f < frame
      → selected p.view.entries c.output (frame_key c.tick f) ≡ Some (row_in rows.pieces f)
  pub fits : (f : ℕ) → f < frame
      → IsRowOf p.view.plan.setup.device c.output (row_in rows.pieces f)

-- ---- none yet

none_more : (n : ℕ) → n ≡ n + 0
none_more n = omega arith

pub read_none : (p : PassFace) (c : Claim) (rows : RowsFace) (channels : ℕ)
    → rows ≡ record { channels = channels; pieces = [] }
    → channels ≡ channels_of_output p.view.plan.setup.device c.output
    → IsReadUpto p p c 0 rows
read_none p c rows channels is long =
    subst (IsReadUpto p p c 0) (sym is) (record {
      heads = 0;
      words = 0;
      few = omega arith;
      pass = λ k. record p {
        view = record p.view {
          loads = none_more p.view.loads k;
          pieces = none_more p.view.pieces k;
        };
      };
      begins = λ lt. refl;
      frugal = λ lt. absurd (omega arith);
      sound = λ lt. absurd (omega arith);
      channels = long;
      count = omega arith;
      past = All-nil (λ (r : RowUpto). r.upto ≤ 0);
      stays = λ f lt more. absurd (omega arith);
      selects = λ f lt. absurd (omega arith);
      fits = λ f lt. absurd (omega arith);
    })

-- ---- one more piece

sum_assoc : (a b c : ℕ) → a + b + c ≡ a + (b + c)
sum_assoc a b c = omega arith

module _ (p : PassFace) (c : Claim) (frame upto : ℕ) (rows : RowsFace) (row : List Cell)
    (goes : frame < upto) (past : All (λ r. r.upto ≤ frame) rows.pieces)
    (stays : (f : ℕ) → f < frame → (more : List RowUpto)
    → row_in (rows.pieces ++ more) f ≡ row_in rows.pieces f)
  where
    abbrev pub piece : RowUpto
    piece = record { row = row; upto = upto }

    -- what the new piece has, whatever follows
    new_row : (f : ℕ) → frame ≤ f → f < upto → (more : List RowUpto)
        → row_in (rows.pieces ++ piece ∷ more) f ≡ row
    new_row f le lt more =
        row_past rows.pieces (piece ∷ more) f
        (All-weaker (λ (r : RowUpto). r.upto ≤ frame) (λ (r : RowUpto). r.upto ≤ f)
        (λ (r : RowUpto) (h : r.upto ≤ frame). omega (arith, h, le)) rows.pieces past)
        ∙ row_here piece more f lt

    joined : (more : List RowUpto)
        → (rows.pieces ++ piece ∷ []) ++ more ≡ rows.pieces ++ piece ∷ more
    joined more = append_assoc rows.pieces (piece ∷ []) more

    pub more_stays : (f : ℕ) → f < upto → (more : List RowUpto)
        → row_in ((rows.pieces ++ piece ∷ []) ++ more) f
        ≡ row_in (rows.pieces ++ piece ∷ []) f
    more_stays f lt more =
        ap (λ (l : List RowUpto). row_in l f) (joined more)
        ∙ elim (cases_lt f frame) [
          | inl below ↦ stays f below (piece ∷ more) ∙ sym (stays f below (piece ∷ []))
          | inr above ↦ new_row f above lt more ∙ sym (new_row f above lt [])
        ]

    pub more_rows : (P : ℕ → List Cell → Type 0)
        → ((f : ℕ) → f < frame → P f (row_in rows.pieces f))
        → ((f : ℕ) → frame ≤ f → f < upto → P f row)
        → (f : ℕ) → f < upto → P f (row_in (rows.pieces ++ piece ∷ []) f)
    more_rows P old new f lt = elim (cases_lt f frame) [
      | inl below ↦ subst (P f) (sym (stays f below (piece ∷ []))) (old f below)
      | inr above ↦ subst (P f) (sym (new_row f above lt [])) (new f above lt)
    ]

    pub more_past : All (λ r. r.upto ≤ upto) (rows.pieces ++ piece ∷ [])
    more_past =
        All-push (λ (r : RowUpto). r.upto ≤ upto) rows.pieces piece
        (All-weaker (λ (r : RowUpto). r.upto ≤ frame) (λ (r : RowUpto). r.upto ≤ upto)
        (λ (r : RowUpto) (h : r.upto ≤ frame). omega (arith, h, goes)) rows.pieces past)
        (omega arith)

-- the words of one more row
words_more : (p : PassFace) (c : Claim) (frame upto words more : ℕ)
    → words ≤ pieces_in p.view.entries c.output c.tick frame
    * channels_of_output p.view.plan.setup.device c.output
    → more ≤ channels_of_output p.view.plan.setup.device c.output
    → pieces_in p.view.entries c.output c.tick frame + 1
    ≤ pieces_in p.view.entries c.output c.tick upto
    → words + more ≤ pieces_in p.view.entries c.output c.tick upto
    * channels_of_output p.view.plan.setup.device c.output
words_more p c frame upto words more was now count =
    let n : ℕ = channels_of_output p.view.plan.setup.device c.output in
    let one : pieces_in p.view.entries c.output c.tick frame * n + n
    ≤ pieces_in p.view.entries c.output c.tick upto * n =
    part_within (pieces_in p.view.entries c.output c.tick upto)
    (pieces_in p.view.entries c.output c.tick frame) n (omega (arith, count)) in
    omega (arith, was, now, one)

module _ (p : PassFace) (c : Claim) (frame upto : ℕ) (rows : RowsFace) (heads words : ℕ)
  where
    more_at : words
        ≤ pieces_in p.view.entries c.output c.tick frame
        * channels_of_output p.view.plan.setup.device c.output
        → IsReadUpto p (read_for p heads words) c frame rows → (r : PassFace)
        → IsPieced (read_for p heads words) r c.output → IsSound p.view.plan
        → frame < p.view.plan.setup.device.rate.frames → (after : RowsFace)
        → IsPieceAdded p.view.plan.setup.device p.view.entries c frame upto rows after
        → IsReadUpto p r c upto after
    more_at was u r is sound inside after a =
        let goes = a.piece.goes_on in
        subst (IsReadUpto p r c upto) (sym a.added) (record {
          heads = heads + is.n;
          words = words + is.words;
          few = words_more p c frame upto words is.words was is.few
              (count_more (begins_piece p.view.entries c.output c.tick) frame upto goes
              (u.begins inside));
          pass = is.pass ∙ (λ k. record p {
            view = record p.view {
              loads = sum_assoc p.view.loads heads is.n k;
              pieces = sum_assoc p.view.pieces words is.words k;
            };
          });
          begins = begins_after p.view.entries c.output c.tick frame
              p.view.plan.setup.device.rate.frames upto a.piece;
          frugal = λ _. is.frugal;
          sound = λ _. sound;
          channels = u.channels;
          count =
              let n = length-append rows.pieces
              (record { row = a.row; upto = upto } ∷ []) in
              let m = u.count in omega (arith, n, m, goes);
          past = more_past p c frame upto rows a.row goes u.past u.stays;
          stays = more_stays p c frame upto rows a.row goes u.past u.stays;
          selects = more_rows p c frame upto rows a.row goes u.past u.stays
              (λ f row. selected p.view.entries c.output (frame_key c.tick f) ≡ Some row)
              u.selects a.rules;
          fits = more_rows p c frame upto rows a.row goes u.past u.stays
              (λ f row. IsRowOf p.view.plan.setup.device c.output row) u.fits (λ f le lt. a.fits);
        })

pub read_more : (p q r : PassFace) (c : Claim) (frame upto : ℕ) (rows after : RowsFace)
    → IsReadUpto p q c frame rows → IsPieced q r c.output → IsSound q.view.plan
    → frame < q.view.plan.setup.device.rate.frames
    → IsPieceAdded q.view.plan.setup.device q.view.entries c frame upto rows after
    → IsReadUpto p r c upto after
read_more p q r c frame upto rows after u is sound inside a =
    more_at p c frame upto rows u.heads u.words u.few
    (subst (λ (z : PassFace). IsReadUpto p z c frame rows) u.pass u) r
    (subst (λ (z : PassFace). IsPieced z r c.output) u.pass is)
    (subst (λ (z : PassFace). IsSound z.view.plan) u.pass sound)
    (subst (λ (z : PassFace). frame < z.view.plan.setup.device.rate.frames) u.pass inside) after
    (subst
    (λ (z : PassFace). IsPieceAdded z.view.plan.setup.device z.view.entries c frame upto rows after)
    u.pass a)

-- ---- what stays of the pass

pub read_plan : (p q : PassFace) (c : Claim) (frame : ℕ) (rows : RowsFace)
    → IsReadUpto p q c frame rows → q.view.plan ≡ p.view.plan
read_plan p q c frame rows u = ap (λ (z : PassFace). z.view.plan) u.pass

pub read_of : (t : TableFace) (p q : PassFace) (c : Claim) (frame : ℕ) (rows : RowsFace)
    → IsReadUpto p q c frame rows → IsPassOf t p → IsPassOf t q
read_of t p q c frame rows u is = subst (IsPassOf t) (sym u.pass)
    (record { id_is = is.id_is; plan_is = is.plan_is })

pub read_last : (p q : PassFace) (c : Claim) (frame : ℕ) (rows : RowsFace)
    → IsReadUpto p q c frame rows → IsLast p.view c → IsLast q.view c
read_last p q c frame rows u is = subst (λ (z : PassFace). IsLast z.view c) (sym u.pass)
    (record { draw = is.draw; claim = is.claim })

-- ---- all frames

pub read_whole : (p q : PassFace) (c : Claim) (frame : ℕ) (rows : RowsFace)
    → IsReadUpto p q c frame rows → frame ≡ p.view.plan.setup.device.rate.frames → 0 < frame
    → IsReadFor p q c
read_whole p q c frame rows u all some = record {
  heads = u.heads;
  words = u.words;
  few = subst
      (λ (n : ℕ). u.words
      ≤ pieces_in p.view.entries c.output c.tick n
      * channels_of_output p.view.plan.setup.device c.output) all u.few;
  id = ap (λ (z : PassFace). z.id) u.pass;
  plan = read_plan p q c frame rows u;
  pass = u.pass;
  frugal = u.frugal some;
}

pub rows_whole : (p q : PassFace) (c : Claim) (frame frames : ℕ) (rows : RowsFace)
    → IsReadUpto p q c frame rows → frames ≤ frame
    → AreRowsOf p.view.plan.setup.device p.view.entries c frames rows.pieces
rows_whole p q c frame frames rows u ge = record {
  selects = λ f lt. u.selects f (omega (arith, lt, ge));
  fits = λ f lt. u.fits f (omega (arith, lt, ge));
}
