mod ManyItems
mod Words
mod Rewritten
mod SingleTokens
mod Rules
