-- What is written for a cursor is short, and reads as the cursor.
use Rattle.std.proofs.Common.{◌≡◌, ℕ, ◌+◌, ◌-◌, ◌≤◌, ◌<◌, ◌^◌, Bool, true, false, Some, Ok, Err, List, ◌∷◌, ◌++◌, length, length-append, codes, lit≤, lit<, arith, rules, ap, ◌∙◌}
use Rattle.std.specs.Prelude.{nat_lt, if◌then◌else◌}
use Rattle.std.proofs.lemmas.Fmt.{length-decimal-le}
use Rattle.json.specs.Print.{quoted}
use Rattle.serde_json.specs.Data.{Data, Members, member, no_members, number, unsigned, boolean}
use Rattle.serde_json.specs.Written.{compact_text, members_text}
use Rattle.serde_json.proofs.OnLiterals.{serde_json_on_literals}
use Rattle.scan_cursor.specs.declared.cursor.Cursor.{Cursor}
use Rattle.scan_cursor.specs.declared.fault.CursorFault.TheVariants.{Syntax}
use Rattle.scan_cursor.specs.Forms.{IsInForm}
use Rattle.scan_cursor.specs.Reading.{up_to, reading}
use Rattle.scan_cursor.specs.Cursors.{cursor_of, cursor_in, or_fault, ◌>>=◌}
use Rattle.scan_cursor.specs.Written.{cursor_value, cursor_text}

up_to-in_range : (high n : ℕ) → n ≤ high → up_to high n ≡ Some n
up_to-in_range high n under = search (rules, under)

-- what is written for a cursor in form reads as the cursor
pub cursor_of-cursor_value : (cursor : Cursor) → IsInForm cursor → cursor_of (cursor_value cursor) ≡ Ok cursor
unfolding serde_json_on_literals
cursor_of-cursor_value cursor form =
    let d1 = up_to-in_range 31 cursor.place.d1 form.outer in
    let d2 = up_to-in_range 31 cursor.place.d2 form.inner in
    let id = up_to-in_range (2 ^ 63 - 1) cursor.place.id (let h = form.block in omega (arith, h)) in
    rw (d1, d2, id)

-- the text of a member and of those after it
length-members_text : (later : Bool) (k : List ℕ) (d : Data) (ms : Members) (a b c : ℕ)
    → length (quoted k) ≤ a → length (compact_text d) ≤ b → length (members_text true ms) ≤ c → length (members_text later (member k d ms)) ≤ a + b + c + 2
length-members_text true k d ms a b c key value rest =
    let outer = length-append (quoted k) (58 ∷ (compact_text d ++ members_text true ms)) in
    let inner = length-append (compact_text d) (members_text true ms) in
    omega (arith, outer, inner, key, value, rest)
length-members_text false k d ms a b c key value rest =
    let outer = length-append (quoted k) (58 ∷ (compact_text d ++ members_text true ms)) in
    let inner = length-append (compact_text d) (members_text true ms) in
    omega (arith, outer, inner, key, value, rest)

length-number : (n : ℕ) → n < 2 ^ 64 → length (compact_text (number (unsigned n))) ≤ 20
length-number n low = length-decimal-le 20 n (lit< tt) (omega arith) low

length-boolean : (b : Bool) → length (compact_text (boolean b)) ≤ 5
length-boolean true = lit≤ tt
length-boolean false = lit≤ tt

-- the text of a cursor has at most 171 bytes
pub length-cursor_text : (cursor : Cursor) → IsInForm cursor → cursor.iter_start_ms < 2 ^ 64 → cursor.last_saved_ms < 2 ^ 64 → length (cursor_text cursor) ≤ 4096
unfolding serde_json_on_literals
length-cursor_text cursor form start saved =
    let ms1 = member (codes "lastSavedMs") (number (unsigned cursor.last_saved_ms)) no_members in
    let ms2 = member (codes "iterStartMs") (number (unsigned cursor.iter_start_ms)) ms1 in
    let ms3 = member (codes "id") (number (unsigned cursor.place.id)) ms2 in
    let ms4 = member (codes "d2") (number (unsigned cursor.place.d2)) ms3 in
    let ms5 = member (codes "d1") (number (unsigned cursor.place.d1)) ms4 in
    let id_low : cursor.place.id < 2 ^ 64 = let h = form.block in omega (arith, h) in
    let d2_low : cursor.place.d2 < 2 ^ 64 = let h = form.inner in omega (arith, h) in
    let d1_low : cursor.place.d1 < 2 ^ 64 = let h = form.outer in omega (arith, h) in
    let last = length-members_text true (codes "lastSavedMs") (number (unsigned cursor.last_saved_ms)) no_members 13 20 1 (lit≤ tt) (length-number _ saved) (lit≤ tt) in
    let iter = length-members_text true (codes "iterStartMs") (number (unsigned cursor.iter_start_ms)) ms1 13 20 36 (lit≤ tt) (length-number _ start) last in
    let id = length-members_text true (codes "id") (number (unsigned cursor.place.id)) ms2 4 20 71 (lit≤ tt) (length-number _ id_low) iter in
    let d2 = length-members_text true (codes "d2") (number (unsigned cursor.place.d2)) ms3 4 20 97 (lit≤ tt) (length-number _ d2_low) id in
    let d1 = length-members_text true (codes "d1") (number (unsigned cursor.place.d1)) ms4 4 20 123 (lit≤ tt) (length-number _ d1_low) d2 in
    let members : length (members_text false (member (codes "atEnd") (boolean cursor.at_end) ms5)) ≤ 163 =
    length-members_text false (codes "atEnd") (boolean cursor.at_end) ms5 7 5 149 (lit≤ tt) (length-boolean cursor.at_end) d1
    in
    omega (arith, members)

-- a short text that reads as a value is the cursor that the value is
pub cursor_in-read : (text : List ℕ) (value : Data) → length text ≤ 4096 → reading text ≡ Some value → cursor_in text ≡ cursor_of value
cursor_in-read text value short read =
    let few : nat_lt 4096 (length text) ≡ false = search (rules, short) in
    ap (λ (b : Bool). if b then Err Syntax else or_fault Syntax (reading text) >>= cursor_of) few ∙ ap (λ o. or_fault Syntax o >>= cursor_of) read
