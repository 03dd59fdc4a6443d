-- The open blocks as the code holds them while it goes through the statements from the first to the last: those that count in a word,
-- the procedures between them by their number.
use Rattle.std.specs.Prelude.{◌≡◌, Bool, true, false, Option, Some, None, List, [], ◌∷◌, ℕ, zero, suc, ◌/◌, ◌%◌, ◌≤◌, ◌<◌, ◌^◌}
use Rattle.model.specs.Sizes.{most_nested, most_statements}
use Rattle.model.specs.Lists.{every}
use Rattle.model.specs.Refusals.{Out, ok, refused, ◌>>=◌, wrong_blocks}
use Rattle.model.specs.Procedures.{Block, if_block, else_block, while_block, procedure_block, open_after, all_closed, begins_none}
use Rattle.model.specs.Program.{Tables, items_of}
use Rattle.program.specs.declared.nesting.Open.{Open}
use Rattle.program.specs.declared.nesting.Blocks.{Blocks}
use Rattle.program.specs.declared.nesting.Blocks.TheVariants.{Plain, WithProcedures}

-- the codes of a block that counts: an if, an if whose else has been met, a while
abbrev pub block_codes : ℕ
block_codes = 4

-- what a block takes of the word: its code, and behind it the number of procedures directly around it
abbrev pub block_size : ℕ
block_size = 4096

unfoldable pub block_of : ℕ → Block
block_of zero = if_block
block_of (suc zero) = else_block
block_of (suc (suc k)) = while_block

-- n procedures, and the blocks around them
unfoldable pub in_procedures : ℕ → List Block → List Block
in_procedures zero bs = bs
in_procedures (suc n) bs = procedure_block ∷ in_procedures n bs

-- the n blocks of a word, the innermost lowest
unfoldable pub blocks_in : (n word : ℕ) → List Block
blocks_in zero w = []
blocks_in (suc n) w = block_of (w % block_codes) ∷ in_procedures (w % block_size / block_codes) (blocks_in n (w / block_size))

-- the open blocks, the innermost first
abbrev pub blocks_of : Open → List Block
blocks_of o = in_procedures o.inner (blocks_in o.nested o.word)

-- the blocks after a statement, or the refusal
abbrev pub passed_of : Option Open → Out (List Block)
passed_of (Some o) = ok (blocks_of o)
passed_of None = refused wrong_blocks

-- no more blocks than may be open at once, and a word of them
pub record Packed (o : Open) : Type 0 where
  pub few : o.nested ≤ most_nested
  pub small : o.word < block_size ^ o.nested

-- a block with a code may be put to them
pub record Opens (o : Open) (code : ℕ) : Type 0 where
  pub packed : Packed o
  pub inner : o.inner < most_statements
  pub known : code < block_codes

-- the same of an answer
abbrev pub PackedIf : Option Open → Type 0
PackedIf (Some o) = Packed o
PackedIf None = Unit {0}

-- the blocks of a program match, and whether none of its statements begins a procedure
pub record BlocksMatch (T : Tables) (plain : Bool) : Type 0 where
  pub closed : open_after [] (items_of T) ≡ ok []
  pub none : plain ≡ every begins_none (items_of T)

-- does no statement begin a procedure?
abbrev pub is_plain : Blocks → Bool
is_plain Plain = true
is_plain WithProcedures = false

-- the same by an answer, or that they do not
abbrev pub NestingIs : Tables → Option Blocks → Type 0
NestingIs T (Some found) = BlocksMatch T (is_plain found)
NestingIs T None = (open_after [] (items_of T) >>= all_closed) ≡ refused wrong_blocks
