-- The text that is put together piece by piece is the result of the serial history.
use Rattle.std.proofs.Common.{◌≡◌, ℕ, ◌+◌, ◌<◌, List, [], ◌++◌, get_or, map, sym, ap, subst, zero-add, ◌∙◌}
use Rattle.std.proofs.Common.{arith, Option, refl}
use Rattle.std.specs.List.{flat_map, range_with_len}
use Rattle.std.proofs.lemmas.List.FromFn.{get_or-map-range_with_len}
use Rattle.std.specs.Io.KnownBytes.{Appends}
use Rattle.list_laws.proofs.Ranges.{flat_map_same}
use Rattle.io_caps.specs.declared.device.DeviceParts.{DeviceParts}
use Rattle.capture_file.specs.Items.{end_text}
use Rattle.capture_file.specs.Parts.{between_bytes, claim_bytes}
use Rattle.capture_file.specs.Formats.{result_magic}
use Rattle.capture_file.specs.Result.{result_text}
use Rattle.capture_file.specs.declared.format.Format.{Format}
use Rattle.capture_file.proofs.Between.{woven_bytes, woven_text}
use Rattle.capture_file.proofs.PartLaws.{shows_all}
use Rattle.capture_file.specs.Capture.{CaptureParts, IsCapture}
use Rattle.book_words.specs.declared.calls.JournalCall.{JournalCall}
use Rattle.book_words.specs.declared.history.ClaimItem.{ClaimItem}
use Rattle.book_words.specs.declared.history.ReplyItem.{ReplyItem}
use Rattle.book_words.specs.History.{history_of}
use Rattle.plain_book.specs.Journal.{entries_of}
use Rattle.serial_player.specs.Written.{record_behind, text_by, IsPrepared, IsWritten}
use Rattle.serial_player.specs.Written.{IsWrittenInPart, IsResultOf, TakesText, TakesTextInPart}
use Rattle.serial_player.specs.Claim.{claim_by}
use Rattle.serial_player.specs.Made.{all_made_by}
use Rattle.serial_player.specs.declared.claims.AllClaims.{AllClaims}
use Rattle.serial_player.specs.declared.writing.Prepared.{Prepared}
use Rattle.serial_player.specs.Serial.{blocks_of, packets_in}
use Rattle.serial_player.proofs.Beginning.{closed_keeps}
use Rattle.serial_player.specs.HistoryParts.{capture_by, history_by_parts}
use Rattle.serial_player.proofs.History.{all_made, same_setup, serial_same}
use Rattle.chan_io.specs.Streams.{TakesPrefix}

pub text_is : (format : Format) (d : DeviceParts) (claim_of : ℕ → ClaimItem) (n : ℕ) (calls : List JournalCall)
    (replies : List ReplyItem) (between : List (List ℕ)) → ((k : ℕ) → (claim_of k).k ≡ k)
    → between ≡ map (λ number. between_bytes format number calls replies) (range_with_len 0 (n + 1))
    → text_by format between claim_of n
    ≡ result_text format d (history_of (map claim_of (range_with_len 0 n)) calls replies)
text_is format d claim_of n calls replies between numbered is =
    let of = λ (number : ℕ). between_bytes format number calls replies in
    let at : (k : ℕ) → k < n + 1 → get_or between k [] ≡ of k = λ k lt.
    ap (λ (xs : List (List ℕ)). get_or xs k []) is
    ∙ get_or-map-range_with_len of 0 (n + 1) k k [] lt (zero-add k) in
    let pieces = flat_map (record_behind between claim_of) (range_with_len 0 n) in
    let same : pieces ≡ flat_map (woven_bytes format claim_of calls replies) (range_with_len 0 n) =
    flat_map_same (record_behind between claim_of) (woven_bytes format claim_of calls replies) 0 n
    (λ k from to. ap (λ (z : List ℕ). z ++ claim_bytes (claim_of k)) (at k (omega (arith, to)))) in
    ap (λ (z : List ℕ). result_magic format ++ (z ++ (get_or between n [] ++ end_text))) same
    ∙ ap (λ (z : List ℕ). result_magic format
    ++ (flat_map (woven_bytes format claim_of calls replies) (range_with_len 0 n) ++ (z ++ end_text)))
    (at n (omega arith))
    ∙ sym (woven_text format d claim_of n calls replies numbered)

-- ---- what a sink took

-- the text that is written from what was prepared
abbrev prepared_text : CaptureParts → List JournalCall → List (List ℕ) → ℕ → List ℕ
prepared_text c journal between n =
    text_by c.format between (claim_by c.setup (entries_of c.setup journal) (blocks_of c)) n

-- it is the result of the serial history
serial_text : (c : CaptureParts) (p : Prepared) → IsPrepared c p
    → prepared_text c p.parts.journal p.between p.parts.claims
    ≡ result_text c.format c.setup.device (history_by_parts c p.parts)
serial_text c p is =
    let journal = p.parts.journal in
    let claims = claim_by c.setup (entries_of c.setup journal) (blocks_of c) in
    ap (text_by c.format p.between claims) is.parts_are.claims
    ∙ text_is c.format c.setup.device claims (packets_in c) journal p.parts.replies p.between
    (λ k. refl) is.between

-- so is the text of its claims and of what stands between them
result_is : (c : CaptureParts) (p : Prepared) (count : ℕ) (between : List (List ℕ))
    → IsCapture c → IsPrepared c p → count ≡ p.parts.claims → between ≡ p.between
    → IsResultOf c (prepared_text c p.parts.journal between count)
result_is c p count between capture is count_same between_same =
    let journal = p.parts.journal in
    let history = history_by_parts c p.parts in
    let serial = is.parts_are.serial in
    record {
      history = history;
      serial = serial;
      begun = closed_keeps c serial.turns history capture.setup serial.legal;
      fits = is.fits;
      shows = shows_all history is.fits.whole;
      written = ap (prepared_text c journal between) count_same
          ∙ ap (λ (b : List (List ℕ)). prepared_text c journal b p.parts.claims) between_same
          ∙ serial_text c p is;
    }

-- the text of the claims is that of what was prepared
claims_text : (c : CaptureParts) (p : Prepared) (claims : AllClaims) (between : List (List ℕ))
    → claims.setup.now ≡ c.setup
    → text_by c.format between
    (all_made_by claims (entries_of c.setup p.parts.journal) (blocks_of c)) claims.count
    ≡ prepared_text c p.parts.journal between claims.count
claims_text c p claims between setup =
    ap (λ (claim : ℕ → ClaimItem). text_by c.format between claim claims.count)
    (same_setup c claims (entries_of c.setup p.parts.journal) (blocks_of c) setup)

-- a sink took all of it
pub written_is : (c : CaptureParts) (p : Prepared) (claims : AllClaims) (between : List (List ℕ))
    (old new : Option (List ℕ)) → IsCapture c → IsPrepared c p → claims.setup.now ≡ c.setup
    → claims.count ≡ p.parts.claims → claims.entries.now ≡ p.parts.entries
    → claims.table.now ≡ p.parts.table → between ≡ p.between → TakesText c.format claims between old new
    → IsWritten c old new
written_is c p claims between old new capture is setup count entries table between_same took =
    let journal = p.parts.journal in
    let told =
    took (entries_of c.setup journal) (blocks_of c)
    (all_made c p.parts claims capture is.parts_are setup count entries table) in
    record {
      text = prepared_text c journal between claims.count;
      result = result_is c p claims.count between capture is count between_same;
      alike = told.0;
      took = subst (Appends old new) (claims_text c p claims between setup) told.1;
    }

-- or a front of it
pub cut_short_is : (c : CaptureParts) (p : Prepared) (claims : AllClaims)
    (between : List (List ℕ)) (old new : Option (List ℕ)) → IsCapture c → IsPrepared c p
    → claims.setup.now ≡ c.setup → claims.count ≡ p.parts.claims
    → claims.entries.now ≡ p.parts.entries → claims.table.now ≡ p.parts.table
    → between ≡ p.between → TakesTextInPart c.format claims between old new
    → IsWrittenInPart c old new
cut_short_is c p claims between old new capture is setup count entries table between_same took =
    let journal = p.parts.journal in
    record {
      text = prepared_text c journal between claims.count;
      result = result_is c p claims.count between capture is count between_same;
      took = subst (TakesPrefix old new) (claims_text c p claims between setup)
          (took (entries_of c.setup journal) (blocks_of c)
          (all_made c p.parts claims capture is.parts_are setup count entries table));
    }

-- ---- where the records of a capture begin makes no difference

-- to its result
result_same : (c : CaptureParts) (text : List ℕ)
    → IsResultOf (capture_by c.format c.setup c.items c.ticks) text → IsResultOf c text
result_same c text is = record {
  history = is.history;
  serial = serial_same c c.format is.history is.serial;
  begun = is.begun;
  fits = is.fits;
  shows = is.shows;
  written = is.written;
}

pub written_same : (c : CaptureParts) (old new : Option (List ℕ))
    → IsWritten (capture_by c.format c.setup c.items c.ticks) old new → IsWritten c old new
written_same c old new is = record {
  text = is.text;
  result = result_same c is.text is.result;
  alike = is.alike;
  took = is.took;
}

pub cut_short_same : (c : CaptureParts) (old new : Option (List ℕ))
    → IsWrittenInPart (capture_by c.format c.setup c.items c.ticks) old new
    → IsWrittenInPart c old new
cut_short_same c old new is = record {
  text = is.text;
  result = result_same c is.text is.result;
  took = is.took;
}
