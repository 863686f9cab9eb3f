use Rattle.std.proofs.Common.{◌+◌, ◌≤◌, vec_len}
use Rattle.am_json.specs.declared.limits.TheConstants.{MAX_FILE_BYTES}
use Rattle.am_program.proofs.read_files.read_from.Given as goal

abbrev pub invariant-loop : goal.invariant-loop
invariant-loop g l = vec_len l.bytes ≤ MAX_FILE_BYTES + 1
