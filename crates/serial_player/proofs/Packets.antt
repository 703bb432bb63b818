-- Packets by input, with the packet of one record more.
use Rattle.std.proofs.Common.{◌≡◌, ℕ, ◌+◌, ◌<◌, List, [], ◌∷◌, ◌++◌, length, get_or, set, take, map}
use Rattle.std.proofs.Common.{Some, None, eqb, false, inl, inr, refl, sym, ap, ◌∙◌, arith}
use Rattle.std.proofs.lemmas.Bool.{cases_eq, eq-eqb, eqb-true}
use Rattle.std.proofs.lemmas.List.{get_or-set_other, get_or-set_same, length-set}
use Rattle.capture_file.specs.Packets.{packet_at, packets_of}
use Rattle.capture_file.specs.declared.items.Item.{Item}
use Rattle.capture_file.specs.declared.items.Item.TheVariants.{Packet}
use Rattle.serial_player.specs.Arrivals.{HavePackets}
use Rattle.serial_player.proofs.Tables.{packet_passed, packet_pushed}

packet_here : (at : ℕ) (bytes : List ℕ) → packet_at at (Packet at bytes) ≡ Some bytes
packet_here at bytes = rw (eq-eqb at at refl) refl

packet_elsewhere : (at input : ℕ) (bytes : List ℕ) → (input ≡ at → ⊥)
    → packet_at input (Packet at bytes) ≡ None
packet_elsewhere at input bytes apart =
    let other : eqb at input ≡ false = grind (arith, eqb-true, apart) in rw other refl

-- with a record that brings a packet
pub packets_with : {P L : Type 0} (bytes : P → List ℕ) (of : L → List P) (inputs : ℕ)
    (lists : List L) (at : ℕ) (new : L) (packet : P) (items : List Item) (i : ℕ) (item : Item)
    → i < length items → item ≡ get_or items i item → item ≡ Packet at (bytes packet)
    → at < length lists → ((d : L) → of new ≡ of (get_or lists at d) ++ packet ∷ [])
    → HavePackets (λ list. map bytes (of list)) inputs (take i items) lists
    → HavePackets (λ list. map bytes (of list)) inputs (take (i + 1) items) (set lists at new)
packets_with {L = L} bytes of inputs lists at new packet items i item lt is brings there pushed
    have = record {
      long = length-set lists at new ∙ have.long;
      each = λ input d within. elim (cases_eq input at) [
        | inl same ↦
            let put : get_or (set lists at new) input d ≡ new =
            ap (λ (k : ℕ). get_or (set lists at new) k d) same
            ∙ get_or-set_same lists at new d there in
            ap (λ (list : L). map bytes (of list)) put
            ∙ ap (map bytes) (pushed d)
            ∙ packet_pushed bytes (of (get_or lists at d)) packet at items i item lt is
            (ap (packet_at at) brings ∙ packet_here at (bytes packet)) (have.each at d there)
            ∙ ap (λ (k : ℕ). packets_of k (take (i + 1) items)) (sym same)
        | inr apart ↦
            let kept : get_or (set lists at new) input d ≡ get_or lists input d =
            get_or-set_other lists at input new d apart in
            ap (λ (list : L). map bytes (of list)) kept
            ∙ packet_passed bytes (of (get_or lists input d)) input items i item lt is
            (ap (packet_at input) brings ∙ packet_elsewhere at input (bytes packet) apart)
            (have.each input d (omega (arith, within, length-set lists at new)))
      ];
    }

-- and with one that does not
pub packets_without : {P L : Type 0} (bytes : P → List ℕ) (of : L → List P) (inputs : ℕ)
    (lists : List L) (items : List Item) (i : ℕ) (item : Item) → i < length items
    → item ≡ get_or items i item → ((input : ℕ) → packet_at input item ≡ None)
    → HavePackets (λ list. map bytes (of list)) inputs (take i items) lists
    → HavePackets (λ list. map bytes (of list)) inputs (take (i + 1) items) lists
packets_without bytes of inputs lists items i item lt is none have = record {
  long = have.long;
  each = λ input d within.
      packet_passed bytes (of (get_or lists input d)) input items i item lt is (none input)
      (have.each input d within);
}
