-- Text that is put to a place of an output, and the most that a listing has.
use Rattle.std.specs.Prelude.{cond, List, [], ◌≡◌, ℕ, ◌+◌, ◌≤◌, leb, length, take}
use Rattle.bytes_le.specs.Overlay.{overlay}
use Rattle.model.specs.Listing.{refusal_text, listing}

-- the output has room for the text from the place on
pub record Room (text : List ℕ) (at : ℕ) (out : List ℕ) : Type 0 where
  pub fits : at + length text ≤ length out

-- the text stands from the place on, no other byte has changed, and r is where it ends
pub record Puts (text : List ℕ) (at : ℕ) (before : List ℕ) (r : ℕ) (after : List ℕ) : Type 0 where
  pub end : r ≡ at + length text
  pub bytes : after ≡ overlay before at text

-- the text stands at the output's start, no other byte has changed, and r is how many of the output's bytes it has
-- (the last part follows from the one before: with it the proof that Rattle makes of `&out[..r]` needs no file)
pub record Lists (text : List ℕ) (before : List ℕ) (r : ℕ) (after : List ℕ) : Type 0 where
  pub puts : Puts text 0 before r after
  pub inside : r ≤ length after
  pub counts : r ≡ length (take r after)

-- room for every listing: 64 lines of 120 nodes of at most 48 bytes
abbrev pub text_most : ℕ
text_most = 370079

-- the listing of a condition file, where the output has room for every listing
unfoldable pub listed : (room : ℕ) → List ℕ → List ℕ
listed room condition = cond (leb text_most room) (listing condition) []

-- the text of a refusal, where it has
unfoldable pub refusing : (room : ℕ) → ℕ → List ℕ
refusing room n = cond (leb text_most room) (refusal_text n) []
