-- What a fault that clap finds in the words comes to.
use Rattle.clap.specs.declared.error.kind.ErrorKind.{ErrorKind}
use Rattle.clap.specs.declared.error.kind.ErrorKind.TheVariants.{OutOfMemory}
use Rattle.flowpaths_cli.specs.declared.words.WordFault.{WordFault}
use Rattle.flowpaths_cli.specs.declared.words.WordFault.TheVariants.{Words, Memory}

-- a fault of the words, but for want of memory
abbrev pub fault_by : ErrorKind → WordFault
fault_by OutOfMemory = Memory
fault_by _ = Words
