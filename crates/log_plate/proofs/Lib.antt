mod Drawing
mod Closing
