-- Captures: what is read is spelled so, and each record is judged in one way.
use Rattle.std.proofs.Common.{◌≡◌, ℕ, List, Some, None, length, refl, sym, ap, ◌∙◌}
use Rattle.exact_text.specs.Readings.{whole_of}
use Rattle.io_caps.specs.Device.{IsDevice}
use Rattle.io_caps.specs.declared.device.DeviceParts.{DeviceParts}
use Rattle.map_entry.specs.declared.cell.Cell.{Cell}
use Rattle.map_entry.specs.declared.grain.Grain.{Grain}
use Rattle.map_entry.specs.Setup.{SetupParts, IsSetup, setup_of, setup_with}
use Rattle.exact_text.proofs.Exact.{IsBytes, some_is}
use Rattle.exact_text.proofs.FieldLaws.{wide4}
use Rattle.capture_file.specs.declared.items.Item.{Item}
use Rattle.capture_file.specs.declared.items.Item.TheVariants.{Packet, Piece, Ask, Work}
use Rattle.capture_file.specs.Tags.{packet_tag, piece_tag, ask_tag, work_tag}
use Rattle.exact_text.specs.Forms.{Form, IsSpelled}
use Rattle.capture_file.specs.Items.{item_tag, if_packet, if_piece, if_ask, if_work, item_body}
use Rattle.capture_file.specs.Items.{IsItemThere}
use Rattle.capture_file.specs.declared.before.DeviceForm.TheVariants.{Plain}
use Rattle.capture_file.specs.Capture.{IsBase}
use Rattle.capture_file.specs.Fault.{IsRead}
use Rattle.exact_text.proofs.FormLaws.{Lawful, Nothing, Tagged, byte_law, number_law, left_law}
use Rattle.exact_text.proofs.FormLaws.{then_law, variant_tagged, no_form_tagged, choose_tagged}
use Rattle.exact_text.proofs.FormLaws.{whole_takes, whole_again}
use Rattle.capture_file.specs.Device.{device}
use Rattle.capture_file.proofs.RequestLaws.{request_law}
use Rattle.capture_file.proofs.DeviceLaws.{device_law}

pub item_law : (t : ℕ) → Tagged Nothing item_tag t (item_body t)
unfolding item_body
item_law t =
    choose_tagged (variant_tagged item_tag packet_tag (λ p. Packet p.0 p.1) if_packet
    (then_law byte_law left_law) (λ p. refl) (λ p. refl)) (
    choose_tagged (variant_tagged item_tag piece_tag (λ p. Piece p.0 p.1) if_piece
    (then_law byte_law left_law) (λ p. refl) (λ p. refl)) (
    choose_tagged (variant_tagged item_tag ask_tag (λ p. Ask p.0 p.1) if_ask
    (then_law byte_law request_law) (λ p. refl) (λ p. refl)) (
    choose_tagged (variant_tagged item_tag work_tag (λ n. Work n) if_work (number_law 4 wide4)
    (λ p. refl) (λ p. refl)) (no_form_tagged item_tag t))))

-- a whole body and its value
pub spelled : {A : Type 0} (f : Form A) → Lawful Nothing f → (body : List ℕ) (x : A) → IsBytes body
    → whole_of f.read body ≡ Some x → IsSpelled f body x
spelled f lawful body x are e = let t = whole_takes lawful body x are e in (t.1, t.0)

pub spelled_reads : {A : Type 0} (f : Form A) → Lawful Nothing f → (body : List ℕ) (x : A)
    → IsSpelled f body x → whole_of f.read body ≡ Some x
spelled_reads f lawful body x h = ap (whole_of f.read) h.1 ∙ whole_again lawful x h.0

pub none_spelled : {A : Type 0} (f : Form A) → Lawful Nothing f → (body : List ℕ)
    → whole_of f.read body ≡ None → (x : A) → IsSpelled f body x → ⊥
none_spelled f lawful body none x h = let again : whole_of f.read body ≡ Some x =
    spelled_reads f lawful body x h in absurd cc

-- ---- the device

-- the one device that a body can spell
pub base_once : (body : List ℕ) (parts : DeviceParts) (rows : List (List Cell))
    → whole_of device.read body ≡ Some (parts, rows) → (setup : SetupParts)
    → IsBase Plain body setup → setup_of parts rows ≡ setup
base_once body parts rows e setup h =
    let same = some_is (parts, rows) (setup.device, setup.rows) (sym e
    ∙ spelled_reads device device_law body (setup.device, setup.rows) h.1.0) in
    ap (λ (p : DeviceParts × List (List Cell)). setup_of p.0 p.1) same
    ∙ ap (λ (g : Grain). setup_with setup.device setup.rows g) (sym h.1.1)

pub base_found : (body : List ℕ) (parts : DeviceParts) (rows : List (List Cell)) → IsBytes body
    → whole_of device.read body ≡ Some (parts, rows) → IsSetup (setup_of parts rows)
    → IsBase Plain body (setup_of parts rows)
base_found body parts rows are e is =
    (is, (spelled device device_law body (parts, rows) are e, refl))

pub no_base : (body : List ℕ) → whole_of device.read body ≡ None → (setup : SetupParts)
    → IsBase Plain body setup → ⊥
no_base body none setup h =
    none_spelled device device_law body none (setup.device, setup.rows) h.1.0

pub base_refused : (body : List ℕ) (parts : DeviceParts) (rows : List (List Cell))
    → whole_of device.read body ≡ Some (parts, rows) → (IsSetup (setup_of parts rows) → ⊥)
    → (setup : SetupParts) → IsBase Plain body setup → ⊥
base_refused body parts rows e never setup h = never (rw (base_once body parts rows e setup h) h.0)

pub device_refused : (body : List ℕ) (parts : DeviceParts) (rows : List (List Cell))
    → whole_of device.read body ≡ Some (parts, rows) → (IsDevice parts → ⊥) → (setup : SetupParts)
    → IsBase Plain body setup → ⊥
device_refused body parts rows e never setup h =
    base_refused body parts rows e (λ is. never is.device) setup h

-- ---- items

pub item_found : (setup : SetupParts) (tag : ℕ) (body : List ℕ) (item : Item) → IsBytes body
    → whole_of (item_body tag).read body ≡ Some item → IsItemThere (length setup.device.inputs) item
    → IsRead setup tag body item
item_found setup tag body item are e there =
    (there, spelled (item_body tag) (item_law tag).lawful body item are e)

pub no_item : (setup : SetupParts) (tag : ℕ) (body : List ℕ)
    → whole_of (item_body tag).read body ≡ None → (item : Item) → IsRead setup tag body item → ⊥
no_item setup tag body none item h =
    none_spelled (item_body tag) (item_law tag).lawful body none item h.1

pub item_once : (setup : SetupParts) (tag : ℕ) (body : List ℕ) (item : Item)
    → whole_of (item_body tag).read body ≡ Some item → (other : Item) → IsRead setup tag body other
    → item ≡ other
item_once setup tag body item e other h =
    some_is item other (sym e ∙ spelled_reads (item_body tag) (item_law tag).lawful body other h.1)

pub item_refused : (setup : SetupParts) (tag : ℕ) (body : List ℕ) (item : Item)
    → whole_of (item_body tag).read body ≡ Some item
    → (IsItemThere (length setup.device.inputs) item → ⊥) → (other : Item)
    → IsRead setup tag body other → ⊥
item_refused setup tag body item e never other h =
    never (rw (item_once setup tag body item e other h) h.0)
