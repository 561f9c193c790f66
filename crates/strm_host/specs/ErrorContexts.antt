-- The error context that a value is. wasmtime, `ErrorContext::from_val`.
use Rattle.std.specs.Prelude.{ℕ, Option, Some, None}
use Rattle.strm_codes.specs.declared.vals.Val.{Val}
use Rattle.strm_codes.specs.declared.vals.Val.TheVariants as vals

-- its number in its store; an item is none
abbrev pub rep_of : Val → Option ℕ
rep_of (vals.Item value) = None
rep_of (vals.ErrorContext any) = Some any.0
