-- The command that is planned for a tool.
use Rattle.std.proofs.Common.{◌≡◌, ℕ, List, Result, Ok, ◌∙◌, sym, inl, inr}
use Rattle.sg_tools.specs.declared.tool.Tool.{Tool}
use Rattle.sg_run.specs.ToolText.{IsReadUnlessOutOfMemory, tool_of_text}
use Rattle.sg_run.specs.declared.request.text_fault.TextFault.{TextFault}

-- a tool is what the text asks for
pub asked-tool : (text : List ℕ) (result : Result Tool TextFault) (tool : Tool)
    → result ≡ Ok tool → IsReadUnlessOutOfMemory text result → tool_of_text text ≡ Ok tool
asked-tool text result tool is (inl same) = sym same ∙ is
asked-tool text result tool is (inr refused) = let other = refused.0 in absurd cc
