-- What a call reads: standard input, or a file in place of it.
use Rattle.std.specs.Prelude.{◌≡◌, List, ℕ, Option, Some, None}
use Rattle.std.specs.declared.fs.File.{File}
use Rattle.process_flow.specs.declared.counted.Counted.{Counted}
use Rattle.process_program.specs.declared.input.CallInput.{CallInput}
use Rattle.process_program.specs.declared.input.CallInput.TheVariants.{Standard, Named}

-- what is said of an input, by what it is
abbrev pub by_input : {R A : Type 0} → (Counted R → A) → (Counted File → A) → CallInput R → A
by_input f g (Standard x) = f x
by_input f g (Named x) = g x

-- the input of a call whose words name this file or none, of which nothing was read
abbrev pub IsInputOf : {R : Type 0} → Option (List ℕ) → R → CallInput R → Type 0
IsInputOf None input source = source ≡ Standard (record { inner = input; faults = 0 })
IsInputOf (Some name) input source = (file : File) × (source ≡ Named (record { inner = file; faults = 0 }))
