-- The words of an `m=` line, of which there are four or more.
use Rattle.std.proofs.Common.{◌≡◌, ℕ, ◌+◌, ◌<◌, Bool, true, false, not, ◌&&◌, ◌||◌, cond, List, [], ◌∷◌, length, filter_map, bytes_eq, codes, ◌==◌}
use Rattle.std.proofs.Common.{Option, Some, None, is_some, is_none, option_map, refl, sym, ap, ◌∙◌, arith}
use Rattle.std.specs.List.{list_all}
use Rattle.std.proofs.lemmas.List.Splits.{length-slice_split}
use Rattle.sdp_audio.specs.Line.{words, space}
use Rattle.sdp_audio.specs.Media.{RtpAudio, port_of, type_of, is_rtp, has_media_fault, audio_of}

some_words : (text : List ℕ) → 0 < length (words text)
some_words text = omega (arith, length-slice_split (λ b. b == space) text)

parts_fault : (kind port transport : List ℕ) (types : List (List ℕ)) → 0 < length types
    → has_media_fault (kind ∷ port ∷ transport ∷ types)
    ≡ (is_none (port_of port) || (is_rtp transport && not (list_all (λ word. is_some (type_of word)) types)))
parts_fault kind port transport [] some = absurd (omega (arith, some))
parts_fault kind port transport (type ∷ types) some = refl

-- whether the words have a fault, by three tests
pub words_fault : (value kind port transport types : List ℕ) (none rtp good : Bool) → words value ≡ kind ∷ port ∷ transport ∷ words types
    → none ≡ is_none (port_of port) → rtp ≡ is_rtp transport → good ≡ list_all (λ word. is_some (type_of word)) (words types)
    → (none || (rtp && not good)) ≡ has_media_fault (words value)
words_fault value kind port transport types none rtp good e a b c =
    rw (e, parts_fault kind port transport (words types) (some_words types), ← a, ← b, ← c) refl

by_tests : {X : Type 0} (a b : Bool) (o : Option ℕ) (make : ℕ → X) (n : ℕ) → a ≡ true → b ≡ true → o ≡ Some n
    → Some (make n) ≡ cond (a && b) (option_map make o) None
by_tests a b o make n p q r = rw (p, q, r) refl

parts_audio : (kind port transport : List ℕ) (types : List (List ℕ)) (n : ℕ) → 0 < length types → bytes_eq kind (codes "audio") ≡ true
    → is_rtp transport ≡ true → port_of port ≡ Some n
    → Some (record { port = n; types = filter_map type_of types }) ≡ audio_of (kind ∷ port ∷ transport ∷ types)
parts_audio kind port transport [] n some p q r = absurd (omega (arith, some))
parts_audio kind port transport (type ∷ types) n some p q r =
    by_tests {X = RtpAudio} (bytes_eq kind (codes "audio")) (is_rtp transport) (port_of port) (λ m. record { port = m; types = filter_map type_of (type ∷ types) }) n p q r

-- the audio that the words offer
pub words_audio : (value kind port transport types : List ℕ) (n : ℕ) → words value ≡ kind ∷ port ∷ transport ∷ words types
    → bytes_eq kind (codes "audio") ≡ true → is_rtp transport ≡ true → port_of port ≡ Some n
    → Some (record { port = n; types = filter_map type_of (words types) }) ≡ audio_of (words value)
words_audio value kind port transport types n e p q r =
    parts_audio kind port transport (words types) n (some_words types) p q r ∙ ap audio_of (sym e)
