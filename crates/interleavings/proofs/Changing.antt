-- What is kept, after a claim, a look that sees, and a call.
use Rattle.interleavings.proofs.Shapes.{HasShape}
use Rattle.std.proofs.Common.{◌≡◌, ℕ, ◌+◌, ◌<◌, Bool, true, false, eqb, List, [], ◌∷◌, ◌++◌, length}
use Rattle.std.proofs.Common.{get_or, map, set, Option, zero-add, Some, None, refl, sym, ap, subst}
use Rattle.std.proofs.Common.{◌∙◌, zero-add}
use Rattle.std.specs.List.{range_with_len}
use Rattle.std.specs.Option.{option_map_or}
use Rattle.std.proofs.lemmas.Bool.{ne_eqb}
use Rattle.std.proofs.lemmas.List.FromFn.{get_or-map-range_with_len, map-range_with_len_more}
use Rattle.list_laws.proofs.Ranges.{map_same_below}
use Rattle.map_entry.specs.Setup.{SetupParts}
use Rattle.packet_writer.specs.Packet.{Blocks, claim_rows, flag_of}
use Rattle.book_words.specs.declared.calls.JournalCall.{JournalCall}
use Rattle.book_words.specs.declared.history.ClaimItem.{ClaimItem}
use Rattle.book_words.specs.declared.history.History.{History}
use Rattle.book_words.specs.declared.requests.Request.{Request}
use Rattle.plain_book.specs.Desk.{DeskParts, desk_parts}
use Rattle.book_words.specs.History.{history_of, put}
use Rattle.plain_book.specs.Journal.{entries_of}
use Rattle.plain_book.specs.Time.{tick_of_claim}
use Rattle.interleavings.specs.declared.events.Answer.{Answer}
use Rattle.interleavings.specs.declared.events.Answer.TheVariants.{Claimed, Seen}
use Rattle.interleavings.specs.declared.events.Event.TheVariants.{Claim, Look, Call}
use Rattle.interleavings.specs.declared.events.AnsweredEvent.{AnsweredEvent}
use Rattle.interleavings.specs.declared.facts.Facts.{Facts}
use Rattle.interleavings.specs.declared.facts.Sight.{Sight}
use Rattle.interleavings.specs.Core.{IsReady, desk_after, inherited, plain_item, sees, set_at}
use Rattle.interleavings.specs.Core.{sight_in}
use Rattle.interleavings.specs.Events.{IsRun, answer_of, block_in, claims_in, journal_in, latest_of}
use Rattle.interleavings.specs.Events.{taken, taken_by}
use Rattle.interleavings.specs.Run.{claim_in, claim_with, has_seen, seen_flags, seen_from}
use Rattle.interleavings.specs.Run.{worker_of}
use Rattle.interleavings.proofs.Counting.{are_drawn, claimed, claims_kept, claims_one, latest_kept}
use Rattle.interleavings.proofs.Counting.{latest_new, latest_other, worker_new, worker_old}
use Rattle.interleavings.proofs.Ranging.{both, set_range}
use Rattle.interleavings.proofs.Readiness.{behind, blocks_stay, claims_of, claims_stay}
use Rattle.interleavings.proofs.Readiness.{closings_stay, history_is, journal_stays, replies_in}
use Rattle.interleavings.proofs.Readiness.{replies_more, replies_stay, same_history, sights_stay}
use Rattle.interleavings.proofs.Runs.{journal_more}
use Rattle.interleavings.proofs.Sighting.{claim_sees, look_sees, sight_kept}
use Rattle.interleavings.proofs.Staying.{claim_same, claim_stays, look_elsewhere}

abbrev the_sight : Option ℕ → List Bool → Sight
the_sight latest seen = record { latest = latest; seen = seen }

-- a claim as code shows it: by a journal, blocks, and what its worker saw
abbrev pub shown : SetupParts → List JournalCall → Blocks → List Bool → ℕ → ClaimItem
shown s journal blocks seen k =
    claim_with s journal blocks k (seen_flags s journal (flag_of seen) k)

-- it is the claim of these events, where that is what they tell
shown_is : (s : SetupParts) (journal : List JournalCall) (after : List AnsweredEvent)
    (blocks : Blocks)
    (seen : List Bool) (worker k : ℕ)
    → journal ≡ journal_in s after
    → ((input tick : ℕ) → blocks input tick ≡ block_in after input tick)
    → seen ≡ map (sees s after worker) (range_with_len 0 (length s.device.inputs))
    → latest_of worker after ≡ Some k
    → worker_of after k ≡ worker
    → shown s journal blocks seen k ≡ claim_in s (journal_in s after) after k
shown_is s journal after blocks seen worker k same there are latest own =
    let n = length s.device.inputs in
    claim_same s journal (journal_in s after) blocks (block_in after) (flag_of seen)
    (has_seen s after k) k
    (λ f lt. ap (λ (j : List JournalCall). claim_rows s (entries_of s j) k f) same)
    (λ input lt. ap (λ (z : List Bool). get_or z input false) are
    ∙ get_or-map-range_with_len (sees s after worker) 0 n input input false lt (zero-add input)
    ∙ ap (λ (l : Option ℕ). option_map_or (λ j. seen_from s worker j input None after) l false)
    latest
    ∙ sym (ap (λ (w : ℕ). seen_from s w k input None after) own))
    (λ input set. there input (tick_of_claim s k))

pub claim_ready : (s : SetupParts) (ticks workers : ℕ) (before : List AnsweredEvent) (worker : ℕ)
    (sight : Sight) (item : ClaimItem) (seen : List Bool)
    (old new : Facts)
    → HasShape s → IsRun s ticks before
    → answer_of s ticks before (Claim worker) ≡ Claimed (claims_in before) → worker < workers
    → sight ≡ sight_in s before worker
    → seen ≡ inherited s sight.latest sight.seen (claims_in before)
    → item ≡ shown s (journal_in s before) (set_at old.blocks.items) seen (claims_in before)
    → new.desk ≡ desk_parts s (claims_in before + 1) (journal_in s before)
    → new.sights ≡ set old.sights worker (the_sight (Some (claims_in before)) seen)
    → new.blocks ≡ old.blocks → new.closings ≡ old.closings
    → new.history ≡ history_of (old.history.claims ++ item ∷ []) old.history.journal
    old.history.replies
    → IsReady s workers before old → IsReady s workers (behind s ticks before (Claim worker)) new
claim_ready s ticks workers before worker sight item seen old new some run is lt its inherit shows
    desk sights blocks closings history ready =
    let k = claims_in before in
    let are = are_drawn s ticks before run in
    let t = claimed before worker in
    let after : List AnsweredEvent = before ++ t ∷ [] in
    let eq : taken_by s ticks before (Claim worker) ≡ t =
    ap (λ (a : Answer). taken (Claim worker) a) is in
    let journal : journal_in s after ≡ journal_in s before = journal_stays s before t refl in
    let claims : claims_in after ≡ k + 1 = claims_one before worker in
    let replies : replies_in after ≡ replies_in before = replies_stay before t refl in
    let seen_is : seen ≡ map (sees s after worker) (range_with_len 0 (length s.device.inputs)) =
    inherit ∙ ap (λ (x : Sight). inherited s x.latest x.seen k) its
    ∙ claim_sees s ticks before worker some.0 run in
    let there = blocks_stay before t (set_at old.blocks.items) (λ input tick. refl) ready.blocks in
    let item_is : item ≡ claim_in s (journal_in s after) after k =
    shows ∙ shown_is s (journal_in s before) after (set_at old.blocks.items) seen worker k
    (sym journal) there seen_is (latest_new before worker)
    (worker_new before worker are) in
    let f = claim_in s (journal_in s after) after in
    let g = claim_in s (journal_in s before) before in
    let old_claims : claims_of s before ≡ map f (range_with_len 0 k) =
    map_same_below g f k (λ i within.
    subst (λ (x : AnsweredEvent). g i
    ≡ claim_in s (journal_in s (before ++ x ∷ [])) (before ++ x ∷ []) i)
    eq
    (claim_stays s ticks before (Claim worker) i some run within (λ input. refl))) in
    let all : claims_of s before ++ item ∷ [] ≡ claims_of s after =
    both (λ (c : List ClaimItem) (x : ClaimItem). c ++ x ∷ []) old_claims item_is
    ∙ sym (ap (λ (n : ℕ). map f (range_with_len 0 n)) claims
    ∙ map-range_with_len_more f 0 k k (zero-add k)) in
    let was : old.history
    ≡ history_of (claims_of s before) (journal_in s before) (replies_in before) =
    ready.history ∙ history_is s before in
    subst (λ (x : AnsweredEvent). IsReady s workers (before ++ x ∷ []) new) (sym eq) (record {
      desk = desk ∙ sym (both (desk_parts s) claims journal);
      sights = sights ∙ ap (λ (z : List Sight). set z worker (the_sight (Some k) seen)) ready.sights
          ∙ set_range (sight_in s before) (sight_in s after) workers worker
          (the_sight (Some k) seen) lt
          (both the_sight (sym (latest_new before worker)) seen_is)
          (λ j within other.
          sym (sight_kept s before t j (latest_other before worker j other) (λ k input o. refl)));
      inputs = rw blocks ready.inputs;
      blocks = λ input tick. rw blocks (there input tick);
      closings = closings ∙ ready.closings
          ∙ sym (closings_stay before t (length s.device.inputs) (λ input. refl));
      history = history
          ∙ ap (λ (h : History). history_of (h.claims ++ item ∷ []) h.journal h.replies) was
          ∙ sym (history_is s after ∙ same_history (sym all) journal replies);
    })

pub look_ready : (s : SetupParts) (ticks workers : ℕ) (before : List AnsweredEvent)
    (worker at k : ℕ)
    (sight : Sight) (item : ClaimItem) (seen : List Bool)
    (old new : Facts)
    → HasShape s → IsRun s ticks before → answer_of s ticks before (Look worker at) ≡ Seen true
    → worker < workers
    → at < length s.device.inputs
    → sight ≡ sight_in s before worker → sight.latest ≡ Some k → seen ≡ set sight.seen at true
    → item ≡ shown s (journal_in s before) (set_at old.blocks.items) seen k
    → new.desk ≡ old.desk → new.sights ≡ set old.sights worker (the_sight (Some k) seen)
    → new.blocks ≡ old.blocks
    → new.closings ≡ old.closings
    → new.history ≡ history_of (set old.history.claims k item) old.history.journal
    old.history.replies
    → IsReady s workers before old → IsReady s workers (behind s ticks before (Look worker at)) new
look_ready s ticks workers before worker at k sight item seen old new some run is lt within its late
    sees_it shows desk sights blocks closings history
    ready =
    let are = are_drawn s ticks before run in
    let t : AnsweredEvent = taken (Look worker at) (Seen true) in
    let after : List AnsweredEvent = before ++ t ∷ [] in
    let eq : taken_by s ticks before (Look worker at) ≡ t =
    ap (λ (a : Answer). taken (Look worker at) a) is in
    let latest : latest_of worker before ≡ Some k = sym (ap (λ (x : Sight). x.latest) its) ∙ late in
    let own = are.own worker k latest in
    let journal : journal_in s after ≡ journal_in s before = journal_stays s before t refl in
    let claims : claims_in after ≡ claims_in before = claims_kept before t refl in
    let replies : replies_in after ≡ replies_in before = replies_stay before t refl in
    let seen_is : seen ≡ map (sees s after worker) (range_with_len 0 (length s.device.inputs)) =
    sees_it ∙ ap (λ (x : Sight). set x.seen at true) its
    ∙ look_sees s before worker at k latest within in
    let there = blocks_stay before t (set_at old.blocks.items) (λ input tick. refl) ready.blocks in
    let late_after : latest_of worker after ≡ Some k = latest_kept worker before t refl ∙ latest in
    let item_is : item ≡ claim_in s (journal_in s after) after k =
    shows ∙ shown_is s (journal_in s before) after (set_at old.blocks.items) seen worker k
    (sym journal) there seen_is late_after
    (worker_old before t k are own.0 ∙ own.1) in
    let f = claim_in s (journal_in s after) after in
    let g = claim_in s (journal_in s before) before in
    let all : set (claims_of s before) k item ≡ claims_of s after =
    set_range g f (claims_in before) k item own.0 item_is
    (λ i below other.
    let elsewhere =
    λ (input : ℕ). look_elsewhere s before worker at i k input
    (answer_of s ticks before (Look worker at)) are latest below other in
    subst (λ (x : AnsweredEvent). g i
    ≡ claim_in s (journal_in s (before ++ x ∷ [])) (before ++ x ∷ []) i)
    eq
    (claim_stays s ticks before (Look worker at) i some run below elsewhere))
    ∙ sym (ap (λ (n : ℕ). map f (range_with_len 0 n)) claims) in
    let was : old.history
    ≡ history_of (claims_of s before) (journal_in s before) (replies_in before) =
    ready.history ∙ history_is s before in
    subst (λ (x : AnsweredEvent). IsReady s workers (before ++ x ∷ []) new) (sym eq) (record {
      desk = desk ∙ ready.desk ∙ sym (both (desk_parts s) claims journal);
      sights = sights ∙ ap (λ (z : List Sight). set z worker (the_sight (Some k) seen)) ready.sights
          ∙ set_range (sight_in s before) (sight_in s after) workers worker
          (the_sight (Some k) seen) lt (both the_sight (sym late_after) seen_is)
          (λ j below other. sym (sight_kept s before t j (latest_kept j before t refl)
          (λ k input o. let off : eqb worker j ≡ false =
          ne_eqb worker j (λ e. other (sym e)) in rw off refl)));
      inputs = rw blocks ready.inputs;
      blocks = λ input tick. rw blocks (there input tick);
      closings = closings ∙ ready.closings
          ∙ sym (closings_stay before t (length s.device.inputs) (λ input. refl));
      history = history
          ∙ ap (λ (h : History). history_of (set h.claims k item) h.journal h.replies) was
          ∙ sym (history_is s after ∙ same_history (sym all) journal replies);
    })

-- ---- a call

pub call_ready : (s : SetupParts) (ticks workers : ℕ) (before : List AnsweredEvent) (client : ℕ)
    (request : Request) (old new : Facts)
    → HasShape s → IsRun s ticks before → new.desk ≡ desk_after old.desk client request
    → new.sights ≡ old.sights
    → new.blocks ≡ old.blocks → new.closings ≡ old.closings
    → new.history ≡ history_of old.history.claims (desk_after old.desk client request).journal
    (put old.history.replies (plain_item old.desk client request))
    → IsReady s workers before old
    → IsReady s workers (behind s ticks before (Call client request)) new
call_ready s ticks workers before client request old new some run desk sights blocks
    closings history ready =
    let t = taken_by s ticks before (Call client request) in
    let after : List AnsweredEvent = before ++ t ∷ [] in
    let book : DeskParts = desk_parts s (claims_in before) (journal_in s before) in
    let journal : journal_in s after ≡ (desk_after book client request).journal =
    journal_more s before t in
    let claims : claims_in after ≡ claims_in before = claims_kept before t refl in
    let replies : replies_in after ≡ put (replies_in before) (plain_item book client request) =
    replies_more before t in
    let all = claims_stay s ticks before (Call client request) some run refl (λ w k i o. refl) in
    let was : old.history
    ≡ history_of (claims_of s before) (journal_in s before) (replies_in before) =
    ready.history ∙ history_is s before in
    record {
      desk = desk ∙ ap (λ (d : DeskParts). desk_after d client request) ready.desk
          ∙ sym (both (desk_parts s) claims journal);
      sights = sights ∙ ready.sights ∙ sym (sights_stay s workers before t refl (λ w k i o. refl));
      inputs = rw blocks ready.inputs;
      blocks = λ input tick.
          rw blocks (blocks_stay before t (set_at old.blocks.items) (λ i at. refl)
          ready.blocks input tick);
      closings = closings ∙ ready.closings
          ∙ sym (closings_stay before t (length s.device.inputs) (λ i. refl));
      history = history
          ∙ both (λ (h : History) (d : DeskParts).
          history_of h.claims (desk_after d client request).journal
          (put h.replies (plain_item d client request))) was ready.desk
          ∙ sym (history_is s after ∙ same_history all journal replies);
    }
