-- What a decision gives of new entries is all that a table asks of them.
use Rattle.std.proofs.Common.{ℕ, ◌+◌, ◌≤◌, List, length, get_or, arith}
use Rattle.claim_rule.specs.Words.{places}
use Rattle.map_entry.specs.Entry.{due}
use Rattle.map_entry.specs.Setup.{IsSetup, SetupParts}
use Rattle.map_entry.specs.declared.entry.Entry.{Entry}
use Rattle.map_entry.proofs.Frames.{tick_from}
use Rattle.claim_word.specs.States.{ArePublishable}
use Rattle.plain_book.specs.Desk.{AreNewEntries}
use Rattle.plain_book.specs.Time.{tick_after}
use Rattle.plain_book.proofs.Grains.{few_frames}
use Rattle.plain_book.proofs.Timing.{key_below}

pub publishable : (s : SetupParts) (claims : ℕ) (entries new : List Entry) → IsSetup s
    → length entries + length new ≤ places → AreNewEntries s claims new
    → ArePublishable s claims entries new
publishable s claims entries new setup room are = record {
  room = room;
  ats = are.ats;
  rows = are.rows;
  ticks = λ k d lt.
      let e : Entry = get_or new k d in
      let low = key_below s (due e) setup (are.starts k d lt) in
      omega (arith, low, (are.rows k d lt).offset, few_frames s setup);
  timely = λ k d lt.
      let e : Entry = get_or new k d in
      tick_from (tick_after s e.at) e.tick e.offset (are.timely k d lt)
      (omega (arith, (are.rows k d lt).offset, few_frames s setup));
}
