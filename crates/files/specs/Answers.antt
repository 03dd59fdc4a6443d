-- What the answers about a file stand for.
use Rattle.std.specs.Prelude.{◌≡◌, List, ℕ, length, Option, Some, None}
use Rattle.io.specs.Counts.{IsPrefixLen}
use Rattle.files.specs.declared.RunFiles.{RunFiles}

-- the file was read, and n of the buffer's bytes are its own
abbrev pub Filled : Option ℕ → List ℕ → Type 0
Filled (Some n) buffer = IsPrefixLen n buffer
Filled None buffer = Unit {0}

-- the three files of a run were read, each so
abbrev pub FilledAll : Option RunFiles → (recipe sheet choices : List ℕ) → Type 0
FilledAll (Some files) recipe sheet choices =
    IsPrefixLen files.recipe recipe × IsPrefixLen files.sheet sheet × IsPrefixLen files.choices choices
FilledAll None recipe sheet choices = Unit {0}

-- the file was written, and it has as many bytes as there were
abbrev pub Whole : Option ℕ → List ℕ → Type 0
Whole (Some n) bytes = n ≡ length bytes
Whole None bytes = Unit {0}
