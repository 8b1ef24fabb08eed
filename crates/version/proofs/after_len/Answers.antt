-- A file of version 3 has four bytes after its number, by the version.
use Rattle.version.proofs.after_len.Goals as goal
use Rattle.rules.specs.Bytes.{bytes}

pub returns-in-Three-clause-value : goal.returns-in-Three-clause-value
unfolding bytes
returns-in-Three-clause-value c = rw c.in-Three.is
