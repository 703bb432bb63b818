-- What is known of a text on its way to a sink, after one call and another.
use Rattle.std.proofs.Common.{◌≡◌, ℕ, ◌+◌, ◌≤◌, List, [], ◌++◌, length, take, Option, sym, ap, ◌∙◌}
use Rattle.std.proofs.Common.{append_assoc, arith, refl, subst}
use Rattle.std.proofs.lemmas.List.{append-nil, length-append, length-take, take_at}
use Rattle.std.specs.Io.KnownBytes.{Appends}
use Rattle.chan_io.specs.Streams.{HasSent, TakesPrefix, TellsAlike, SendsOn, TakesOn}
use Rattle.chan_io.proofs.Told.{Appends-then, TellsAlike-then, Appends-nothing, TellsAlike-same}

-- a sink that took a front of what waits took a front of the text
pub sent_front : (start mid new : Option (List ℕ)) (waiting text : List ℕ)
    → HasSent start mid waiting text
    → TakesPrefix mid new waiting
    → TakesPrefix start new text
sent_front start mid new waiting text h p = record {
  front = h.sent ++ p.front;
  rest = p.rest;
  parts =
      h.parts ∙ ap (λ (z : List ℕ). h.sent ++ z) p.parts ∙ sym (append_assoc h.sent p.front p.rest);
  alike = TellsAlike-then start mid new h.alike p.alike;
  taken = Appends-then start mid new h.sent p.front h.took p.taken;
}

-- one that took all of it leaves none to wait
pub sent_all : (start mid new : Option (List ℕ)) (waiting text : List ℕ)
    → HasSent start mid waiting text
    → TellsAlike mid new
    → Appends mid new waiting
    → HasSent start new [] text
sent_all start mid new waiting text h alike took = record {
  sent = h.sent ++ waiting;
  alike = TellsAlike-then start mid new h.alike alike;
  took = Appends-then start mid new h.sent waiting h.took took;
  parts = h.parts ∙ sym (append-nil (h.sent ++ waiting));
}

-- bytes that come to a text wait after the others
pub sent_later : (start now : Option (List ℕ)) (waiting text bytes : List ℕ)
    → HasSent start now waiting text
    → HasSent start now (waiting ++ bytes) (text ++ bytes)
sent_later start now waiting text bytes h = record {
  sent = h.sent;
  alike = h.alike;
  took = h.took;
  parts = ap (λ (z : List ℕ). z ++ bytes) h.parts ∙ append_assoc h.sent waiting bytes;
}

-- what a sink took of a text is a front of it
pub sent_so_far : (start now : Option (List ℕ)) (waiting text : List ℕ)
    → HasSent start now waiting text
    → TakesPrefix start now text
sent_so_far start now waiting text h = record {
  front = h.sent;
  rest = waiting;
  parts = h.parts;
  alike = h.alike;
  taken = h.took;
}

-- and of a longer text
pub longer_front : (start now : Option (List ℕ)) (text bytes : List ℕ)
    → TakesPrefix start now text
    → TakesPrefix start now (text ++ bytes)
longer_front start now text bytes p = record {
  front = p.front;
  rest = p.rest ++ bytes;
  parts = ap (λ (z : List ℕ). z ++ bytes) p.parts ∙ append_assoc p.front p.rest bytes;
  alike = p.alike;
  taken = p.taken;
}

-- bytes in place after those that wait
pub placed : (buffer bytes behind : List ℕ) (waiting : ℕ)
    → waiting ≤ length buffer
    → take (waiting + length bytes) (take waiting buffer ++ (bytes ++ behind))
    ≡ take waiting buffer ++ bytes
placed buffer bytes behind waiting within =
    let front = take waiting buffer in
    let long : length (front ++ bytes) ≡ waiting + length bytes =
    omega (arith, length-append front bytes, length-take waiting buffer, within) in
    ap (λ (z : List ℕ). take (waiting + length bytes) z) (sym (append_assoc front bytes behind))
    ∙ take_at (front ++ bytes) behind (waiting + length bytes) long

-- ---- one text after another

-- more, and then more
pub sends_then : (a b c : Option (List ℕ)) (wa wb wc x y : List ℕ) → SendsOn a wa b wb x
    → SendsOn b wb c wc y → SendsOn a wa c wc (x ++ y)
sends_then a b c wa wb wc x y one then start text h =
    subst (HasSent start c wc) (append_assoc text x y) (then start (text ++ x) (one start text h))

-- more, and then a front of more
pub takes_then : (a b c : Option (List ℕ)) (wa wb x y : List ℕ) → SendsOn a wa b wb x
    → TakesOn b wb c y → TakesOn a wa c (x ++ y)
takes_then a b c wa wb x y one then start text h =
    subst (TakesPrefix start c) (append_assoc text x y) (then start (text ++ x) (one start text h))

-- a front of more is one of still more
pub takes_longer : (a c : Option (List ℕ)) (wa x y : List ℕ) → TakesOn a wa c x
    → TakesOn a wa c (x ++ y)
takes_longer a c wa x y takes start text h =
    subst (TakesPrefix start c) (append_assoc text x y)
    (longer_front start c (text ++ x) y (takes start text h))

-- of a text that went its way the sink took a front
pub sends_takes : (a c : Option (List ℕ)) (wa wc x : List ℕ) → SendsOn a wa c wc x
    → TakesOn a wa c x
sends_takes a c wa wc x sends start text h = sent_so_far start c wc (text ++ x) (sends start text h)

-- where nothing waits, no text went yet
pub sent_nothing : (now : Option (List ℕ)) (waiting : List ℕ) → waiting ≡ []
    → HasSent now now waiting []
sent_nothing now waiting none = rw none (record {
  sent = [];
  alike = TellsAlike-same now;
  took = Appends-nothing now;
  parts = refl;
})

-- where none of it waits any more, the sink took it
pub sent_whole : (old new : Option (List ℕ)) (waiting text : List ℕ) → waiting ≡ []
    → HasSent old new waiting text → TellsAlike old new × Appends old new text
sent_whole old new waiting text none h = (
  h.alike,
  subst (Appends old new)
      (sym (h.parts ∙ ap (λ (z : List ℕ). h.sent ++ z) none ∙ append-nil h.sent)) h.took,
)
