-- What a lap keeps in which one worker claims, one client asks and one feeder feeds.
use Rattle.std.proofs.Common.{◌≡◌, ℕ, zero, suc, ◌+◌, ◌<◌, Bool, true, List, [], ◌∷◌, length, map, Some}
use Rattle.std.proofs.Common.{refl, sym, ap, ◌∙◌, subst, arith}
use Rattle.std.specs.Prelude.{All, slice_get, slice_index_or, slice_set}
use Rattle.std.specs.List.{list_any}
use Rattle.std.proofs.lemmas.List.{length-set}
use Rattle.std.proofs.lemmas.List.Elements.{All-set}
use Rattle.std.proofs.lemmas.List.Folds.{list_any_at}
use Rattle.claim_word.specs.Faces.{ClientFace, IsClientOf, IsPublisherOf, PassFace, PublisherFace}
use Rattle.claim_word.specs.Faces.{TableFace}
use Rattle.input_cells.specs.Faces.{AreNumbered, InputFace, IsFeedOf, SeatFace, face_of}
use Rattle.packet_worker.specs.Faces.{IsWorkerOf, WorkerFace}
use Rattle.session_laps.specs.Laps.{AreBack, is_over, passes_in}

-- the first of the feeders' passes is that of its input
pub first_feed : (inputs : List InputFace) (feeds : List SeatFace) (d : SeatFace)
    → map face_of feeds ≡ inputs → AreNumbered inputs → 0 < length feeds
    → IsFeedOf inputs (slice_index_or feeds 0 d)
first_feed inputs [] d faces numbered some = absurd (omega (arith, some))
first_feed [] (p ∷ ps) d faces numbered some = absurd cc
first_feed (t ∷ ts) (p ∷ ps) d faces numbered some =
    let face : face_of p ≡ t = cc in
    let place : t.shape.input ≡ 0 = numbered 0 t (omega arith) in
    let own : p.view.shape.input ≡ 0 = ap (λ (x : InputFace). x.shape.input) face ∙ place in
    ap (slice_get (t ∷ ts)) own ∙ ap Some (sym face)

-- with that pass changed the passes are still of the same tables
faces_after : (inputs : List InputFace) (feeds : List SeatFace) (d p : SeatFace)
    → map face_of feeds ≡ inputs → 0 < length feeds
    → face_of p ≡ face_of (slice_index_or feeds 0 d) → map face_of (slice_set feeds 0 p) ≡ inputs
faces_after inputs [] d p faces some same = absurd (omega (arith, some))
faces_after inputs (q ∷ qs) d p faces some same =
    ap (λ (x : InputFace). x ∷ map face_of qs) same ∙ faces

pub back_after : (table : TableFace) (inputs : List InputFace) (p q : PublisherFace)
    (ws : List WorkerFace) (feeds : List SeatFace) (cs : List ClientFace) (room : ℕ)
    (w : WorkerFace) (c : ClientFace) (d f : SeatFace) → AreBack table inputs p ws feeds cs room
    → IsPublisherOf table q → q.made ≡ p.made → q.clients ≡ p.clients
    → IsWorkerOf table inputs w → IsClientOf table c → 0 < length feeds
    → face_of f ≡ face_of (slice_index_or feeds 0 d)
    → AreBack table inputs q (slice_set ws 0 w) (slice_set feeds 0 f) (slice_set cs 0 c) room
back_after table inputs p q ws feeds cs room w c d f b of made clients ww cc some face = record {
  of_publisher = of;
  of_workers = All-set (IsWorkerOf table inputs) ws 0 w ww b.of_workers;
  all_workers = length-set ws 0 w ∙ b.all_workers ∙ sym made;
  of_clients = All-set (IsClientOf table) cs 0 c cc b.of_clients;
  all_clients = length-set cs 0 c ∙ b.all_clients ∙ sym clients;
  feeds_are = faces_after inputs feeds d f b.feeds_are some face;
  room_is = omega (arith, length-set ws 0 w, b.room_is);
}

pub over_after : (ws : List WorkerFace) (w : WorkerFace) → 0 < length ws → w.pass.ended ≡ true
    → is_over (slice_set ws 0 w) ≡ true
over_after [] w some ended = absurd (omega (arith, some))
over_after (x ∷ xs) w some ended =
    list_any_at (λ (p : PassFace). p.ended) (passes_in (w ∷ xs)) 0 w.pass (omega arith) ended
