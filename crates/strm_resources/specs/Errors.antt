-- What the errors print, and which of them are refusals.
-- wasmtime, `resource_table.rs`, `Display` of `ResourceTableError`; the last three are ours.
use Rattle.std.specs.Prelude.{ℕ, List, codes, Option, Some, None, Result, Ok, Err}
use Rattle.strm_resources.specs.declared.errors.ResourceTableError.{ResourceTableError}
use Rattle.strm_resources.specs.declared.errors.ResourceTableError.TheVariants.{Full, NotPresent, WrongType, HasChildren, HasParent, NotChild, OutOfMemory}

-- the text of an error
abbrev pub error_text : ResourceTableError → List ℕ
error_text Full = codes "resource table has no free keys"
error_text NotPresent = codes "resource not present"
error_text WrongType = codes "resource is of another type"
error_text HasChildren = codes "resource has children"
error_text HasParent = codes "HasParent"
error_text NotChild = codes "NotChild"
error_text OutOfMemory = codes "OutOfMemory"

-- the error, if it is a refusal: every error but running out of memory
abbrev pub refused : ResourceTableError → Option ResourceTableError
refused OutOfMemory = None
refused Full = Some Full
refused NotPresent = Some NotPresent
refused WrongType = Some WrongType
refused HasChildren = Some HasChildren
refused HasParent = Some HasParent
refused NotChild = Some NotChild

-- the refusal that a call answered, if it answered one
abbrev pub refusal_of : {A : Type 0} → Result A ResourceTableError → Option ResourceTableError
refusal_of (Ok x) = None
refusal_of (Err e) = refused e
