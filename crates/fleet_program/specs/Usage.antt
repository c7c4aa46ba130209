-- What is asked of the program beside its commands.
-- Serves `run_program`.
use Rattle.std.specs.Prelude.{◌≡◌, ◌⊎◌}
use Rattle.clap.specs.declared.error.kind.ErrorKind.{ErrorKind}
use Rattle.clap.specs.declared.error.kind.ErrorKind.TheVariants.{DisplayHelp, DisplayVersion}

-- words that ask for a page, which is no mistake: help, or the version
abbrev pub IsPage : ErrorKind → Type 0
IsPage kind = (kind ≡ DisplayHelp) ⊎ (kind ≡ DisplayVersion)
