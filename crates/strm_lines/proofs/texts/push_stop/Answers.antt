use Rattle.std.proofs.Common.{◌≡◌, ◌++◌, ℕ, List, [], ◌∷◌, ◌∙◌, append_assoc, codes}
use Rattle.std.proofs.lemmas.Result.{on_ok_weaker}
use Rattle.strm_lines.specs.Text.{line_ended, host_end_text}
use Rattle.strm_lines.proofs.texts.push_stop.Goals as goal

-- a word and its space, and then a host end, as a line
told : (out a b c d : List ℕ) → b ≡ out ++ codes "host-failed " → c ≡ b ++ a → d ≡ c ++ 10 ∷ [] → d ≡ out ++ line_ended (codes "host-failed" ++ 32 ∷ a)
told out a b c d e f g = rw (g, f, e) (append_assoc (out ++ codes "host-failed ") a (10 ∷ []) ∙ append_assoc out (codes "host-failed ") (a ++ 10 ∷ []))

pub returns-in_ok-push_host_end-in-HostFailed : goal.returns-in_ok-push_host_end-in-HostFailed
returns-in_ok-push_host_end-in-HostFailed c =
    rw c.in-HostFailed.is
    (on_ok_weaker c.push.result
    (λ g. told c.args.out.now (host_end_text c.in-HostFailed.end) c.push_slice.new.self c.push_host_end.new.out c.push.new.self (c.in_ok-push_slice-in-HostFailed.ensures.ok) c.in_ok-push_host_end-in-HostFailed.ensures g)
    c.push.ensures.ok)
