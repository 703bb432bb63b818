-- From a walk over the places to the layout.
use Rattle.std.proofs.Common.{◌≡◌, true, false, List, ℕ, IfOk, OnErr, IsOk, IsOkAnd, Result, Ok, Err, refl, sym, subst}
use Rattle.rtp_pcm.specs.declared.packet.Head.{Head}
use Rattle.rtp_pcm.specs.Packet.{IsHead, IsRtp, rtp_packet}
use Rattle.rtp_pcm.proofs.PacketLaws.{rtp_packet-IsRtp}

pub found : {P E : Type 0} (r : Result P E) (A : Type 0) (Q R : P → Type 0) → (IsOk r → A) → IfOk r Q → (A → (p : P) → Q p → R p) → IfOk r R
found (Ok p) A Q R ok parts step = step (ok refl) p parts
found (Err e) A Q R ok parts step = tt

pub only : {P E : Type 0} (r : Result P E) (Q R : P → Type 0) → IsOk r → IfOk r Q → ((p : P) → Q p → R p) → IsOkAnd r R
only (Ok p) Q R ok parts step = step p parts
only (Err e) Q R ok parts step = absurd cc

pub written : (text : List ℕ) (head : Head) (payload : List ℕ) → IsHead head → text ≡ rtp_packet head payload → IsRtp text head false payload
written text head payload fits e = subst (λ (x : List ℕ). IsRtp x head false payload) (sym e) (rtp_packet-IsRtp head payload fits)

err_is : false ≡ true → ⊥
err_is e = cc

pub missing : {P E : Type 0} (r : Result P E) (A B : Type 0) → (A → IsOk r) → ((A → ⊥) → B) → OnErr r B
missing (Ok p) A B ok step = tt
missing (Err e) A B ok step = step (λ a. err_is (ok a))
